use Rattle.std.proofs.Common.{◌≡◌, ◌*◌, ◌+◌, [], take, true}
use Rattle.std.specs.List.{list_all}
use Rattle.cf_tree.specs.Tree.{depth, depth_all, none, hole_free}
use Rattle.cf_tree.specs.View.{one_each, definitions, branches}
use Rattle.cf_tree.specs.Whole.{branch_hole_free, definition_hole_free}
use Rattle.cf_tree.proofs.classes.+holes.Given as goal

abbrev pub invariant-all_hole_free-loop-t : goal.invariant-all_hole_free-loop-t
invariant-all_hole_free-loop-t l = list_all hole_free (take l.t-index l.t-items) ≡ true

abbrev pub invariant-branches_hole_free-loop-b : goal.invariant-branches_hole_free-loop-b
invariant-branches_hole_free-loop-b l = list_all branch_hole_free (take l.b-index l.b-items) ≡ true

abbrev pub invariant-definitions_hole_free-loop-d : goal.invariant-definitions_hole_free-loop-d
invariant-definitions_hole_free-loop-d l = list_all definition_hole_free (take l.d-index l.d-items) ≡ true

abbrev pub decreases-hole_free : goal.decreases-hole_free
decreases-hole_free l = 2 * depth l.t.now

abbrev pub decreases-all_hole_free : goal.decreases-all_hole_free
decreases-all_hole_free l = 2 * depth_all (one_each l.ts.now.items none) + 1

abbrev pub decreases-branches_hole_free : goal.decreases-branches_hole_free
decreases-branches_hole_free l = 2 * depth_all (branches l.bs.now.items) + 1

abbrev pub decreases-definitions_hole_free : goal.decreases-definitions_hole_free
decreases-definitions_hole_free l = 2 * depth_all (definitions [] l.ds.now.items none) + 1
