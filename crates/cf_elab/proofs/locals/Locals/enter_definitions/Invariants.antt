use Rattle.std.proofs.Common.{◌≡◌, drop}
use Rattle.cf_tree.specs.View.{variables}
use Rattle.cf_elab.specs.Scope.{under}
use Rattle.cf_elab.proofs.locals.Locals.enter_definitions.Given as goal

abbrev pub invariant-loop-definition : goal.invariant-loop-definition
invariant-loop-definition l =
    under (variables (drop l.definition-index l.definitions.items)) l.self ≡ under (variables l.definitions.items) l.initial.self
