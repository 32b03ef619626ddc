use Rattle.std.proofs.Common.{◌≡◌}
use Rattle.cf_normalise.specs.Iterated.{function}
use Rattle.cf_normalise.proofs.iterating.function.Given as goal

abbrev pub invariant-loop-i : goal.invariant-loop-i
invariant-loop-i l = l.f.value ≡ function l.i
