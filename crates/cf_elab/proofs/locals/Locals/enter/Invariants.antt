use Rattle.std.proofs.Common.{◌≡◌, drop}
use Rattle.cf_tree.specs.View.{binders_of}
use Rattle.cf_elab.specs.Scope.{under}
use Rattle.cf_elab.proofs.locals.Locals.enter.Given as goal

abbrev pub invariant-loop-binder : goal.invariant-loop-binder
invariant-loop-binder l = under (binders_of (drop l.binder-index l.binders.items)) l.self ≡ under (binders_of l.binders.items) l.initial.self
