use Rattle.std.proofs.Common.{◌∙◌, ◌<◌, arith, length, sym}
use Rattle.cf_syntax.proofs.Judged.{range_more, length_of}
use Rattle.cf_syntax.specs.Tokens.{tokens_of}
use Rattle.cf_syntax.proofs.source.Source.first_literal.Goals as goal

pub loop-at-preserved : goal.loop-at-preserved
loop-at-preserved c =
    let l = c.args.self.now.tokens.now in
    let n = length_of l in
    let h : c.loop-at.at < length l.tokens = omega (arith, c.len-len.ensures, c.loop-at-test.true) in
    (omega (arith, h), range_more (tokens_of l) c.loop-at.at (omega (arith, h, n)) c.loop-at.invariant.1 (λ k ls e. sym (c.is_in_range.ensures k ls e) ∙ c.if-is_in_range.true))
