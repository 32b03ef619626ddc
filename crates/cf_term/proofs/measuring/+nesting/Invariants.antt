use Rattle.std.proofs.Common.{◌≡◌, ◌≤◌, ◌*◌, ◌+◌, ◌-◌, ◌^◌, min, max}
use Rattle.cf_term.specs.Core.{depth}
use Rattle.cf_term.specs.View.{tm_of}
use Rattle.cf_term.specs.Numbered.{terms}
use Rattle.cf_term.specs.Measures.{nesting_all}
use Rattle.cf_term.proofs.Walked.{after}
use Rattle.cf_term.proofs.measuring.+nesting.Given as goal

abbrev pub invariant-nesting_of_parts-loop-i : goal.invariant-nesting_of_parts-loop-i
invariant-nesting_of_parts-loop-i l = (l.n ≤ 2 ^ 32 - 1) × (min (max l.n (nesting_all (after l.i (terms (tm_of l.node))))) (2 ^ 32 - 1) ≡ min (nesting_all (terms (tm_of l.node))) (2 ^ 32 - 1))

abbrev pub decreases-nesting : goal.decreases-nesting
decreases-nesting l = 2 * depth l.t.now + 1

abbrev pub decreases-nesting_of_parts : goal.decreases-nesting_of_parts
decreases-nesting_of_parts l = 2 * depth (tm_of l.node.now)
