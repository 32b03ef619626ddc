use Rattle.std.proofs.Common.{◌≡◌, drop, map, Some}
use Rattle.cf_tree.specs.View.{names_of}
use Rattle.cf_elab.specs.Scope.{under}
use Rattle.cf_elab.proofs.locals.Locals.enter_params.Given as goal

abbrev pub invariant-loop-param : goal.invariant-loop-param
invariant-loop-param l =
    under (map Some (names_of (drop l.param-index l.params.items))) l.self ≡ under (map Some (names_of l.params.items)) l.initial.self
