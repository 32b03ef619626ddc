use Rattle.std.proofs.Common.{◌≡◌, ◌*◌, ◌+◌, ◌-◌, ◌^◌, min, ℕ}
use Rattle.cf_term.specs.Core.{depth}
use Rattle.cf_term.specs.View.{tm_of}
use Rattle.cf_term.specs.Numbered.{places, terms}
use Rattle.cf_term.specs.Closed.{AreClosed}
use Rattle.cf_term.proofs.Walked.{after, places_after}
use Rattle.cf_term.proofs.closing.+closing.Given as goal

abbrev pub invariant-are_below-loop-i : goal.invariant-are_below-loop-i
invariant-are_below-loop-i l = (n : ℕ) → min n (2 ^ 64 - 1) ≡ l.variables → AreClosed n (places_after l.i (places (tm_of l.node))) (after l.i (terms (tm_of l.node))) → AreClosed n (places (tm_of l.node)) (terms (tm_of l.node))

abbrev pub decreases-is_below : goal.decreases-is_below
decreases-is_below l = 2 * depth l.t.now + 1

abbrev pub decreases-are_below : goal.decreases-are_below
decreases-are_below l = 2 * depth (tm_of l.node.now)
