use Rattle.std.proofs.Common.{arith}
use Rattle.cf_syntax.proofs.Decimals.{decimal-more}
use Rattle.cf_syntax.proofs.numbers.decimal.Goals as goal

pub loop-digit-preserved : goal.loop-digit-preserved
loop-digit-preserved c =
    let more = decimal-more c.args.digits.now c.loop-digit.digit-index c.loop-digit-test.true in
    omega (arith, more, c.saturating_add-n.ensures, c.saturating_mul.ensures, c.saturating_sub.ensures, c.from.ensures, c.loop-digit.invariant)
