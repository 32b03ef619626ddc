use Rattle.std.proofs.Common.{◌≡◌}
use Rattle.cf_eval.specs.Scopes.{with_binders}
use Rattle.cf_eval.proofs.scoping.Scope.under.Given as goal

abbrev pub invariant-loop-i : goal.invariant-loop-i
invariant-loop-i l = l.inner ≡ with_binders l.i l.first l.self
