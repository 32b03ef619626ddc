use Rattle.std.proofs.Common.{◌≡◌, ◌-◌, ◌^◌, min, take}
use Rattle.cf_syntax.specs.Numbers.{decimal}
use Rattle.cf_syntax.proofs.numbers.decimal.Given as goal

abbrev pub invariant-loop-digit : goal.invariant-loop-digit
invariant-loop-digit l = l.n ≡ min (decimal 0 (take l.digit-index l.digits)) (2 ^ 64 - 1)
