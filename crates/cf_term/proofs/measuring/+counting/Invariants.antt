use Rattle.std.proofs.Common.{◌≡◌, ◌≤◌, ◌*◌, ◌+◌, ◌-◌, ◌^◌, min}
use Rattle.cf_term.specs.Core.{depth}
use Rattle.cf_term.specs.View.{tm_of}
use Rattle.cf_term.specs.Numbered.{terms}
use Rattle.cf_term.specs.Measures.{nodes_all}
use Rattle.cf_term.proofs.Walked.{after}
use Rattle.cf_term.proofs.measuring.+counting.Given as goal

abbrev pub invariant-size_of_parts-loop-i : goal.invariant-size_of_parts-loop-i
invariant-size_of_parts-loop-i l = (l.n ≤ 2 ^ 64 - 1) × (min (l.n + nodes_all (after l.i (terms (tm_of l.node)))) (2 ^ 64 - 1) ≡ min (nodes_all (terms (tm_of l.node))) (2 ^ 64 - 1))

abbrev pub decreases-size : goal.decreases-size
decreases-size l = 2 * depth l.t.now + 1

abbrev pub decreases-size_of_parts : goal.decreases-size_of_parts
decreases-size_of_parts l = 2 * depth (tm_of l.node.now)
