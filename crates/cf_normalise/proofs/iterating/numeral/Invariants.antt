use Rattle.std.proofs.Common.{◌≡◌}
use Rattle.cf_normalise.specs.Iterated.{numeral}
use Rattle.cf_normalise.proofs.iterating.numeral.Given as goal

abbrev pub invariant-loop-i : goal.invariant-loop-i
invariant-loop-i l = l.t.value ≡ numeral l.i
