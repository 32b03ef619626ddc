use Rattle.std.proofs.Common.{◌*◌, ◌+◌}
use Rattle.cf_term.specs.Core.{depth}
use Rattle.cf_term.specs.View.{tm_of}
use Rattle.cf_term.specs.Numbered.{places, terms}
use Rattle.cf_term.specs.Substitution.{substitute, ups, in_place}
use Rattle.cf_term.proofs.Walked.{Walks}
use Rattle.cf_term.proofs.substituting.+substituting.Given as goal

abbrev pub invariant-below_parts-loop-i : goal.invariant-below_parts-loop-i
invariant-below_parts-loop-i l = Walks (λ n t. substitute (ups n (ups l.depth (in_place l.at l.by))) t) (places (tm_of l.node)) (terms (tm_of l.node)) l.made.items l.i

abbrev pub decreases-below : goal.decreases-below
decreases-below l = 2 * depth l.t.now + 1

abbrev pub decreases-below_parts : goal.decreases-below_parts
decreases-below_parts l = 2 * depth (tm_of l.node.now)
