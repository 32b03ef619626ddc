use Rattle.std.proofs.Common.{◌≡◌}
use Rattle.cf_value.specs.Contexts.{with_variables}
use Rattle.cf_eval.proofs.evaluating.with_levels.Given as goal

abbrev pub invariant-loop-i : goal.invariant-loop-i
invariant-loop-i l = l.inner ≡ with_variables l.i l.fn.level l.fn.env
