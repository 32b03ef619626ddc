use Rattle.std.proofs.Common.{◌*◌, ◌+◌}
use Rattle.cf_term.specs.Core.{depth}
use Rattle.cf_term.specs.View.{tm_of}
use Rattle.cf_term.specs.Numbered.{places, terms}
use Rattle.cf_term.specs.Substitution.{rename, lifts, skip}
use Rattle.cf_term.proofs.Walked.{Walks}
use Rattle.cf_term.proofs.shifting.+shifting.Given as goal

abbrev pub invariant-raise_parts-loop-i : goal.invariant-raise_parts-loop-i
invariant-raise_parts-loop-i l = Walks (λ n t. rename (lifts n (skip l.from l.by)) t) (places (tm_of l.node)) (terms (tm_of l.node)) l.made.items l.i

abbrev pub decreases-raise : goal.decreases-raise
decreases-raise l = 2 * depth l.t.now + 1

abbrev pub decreases-raise_parts : goal.decreases-raise_parts
decreases-raise_parts l = 2 * depth (tm_of l.node.now)
