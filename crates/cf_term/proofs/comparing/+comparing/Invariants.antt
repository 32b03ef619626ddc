use Rattle.std.proofs.Common.{◌*◌, ◌+◌}
use Rattle.cf_term.specs.Core.{depth}
use Rattle.cf_term.specs.View.{tm_of}
use Rattle.cf_term.specs.Numbered.{terms}
use Rattle.cf_term.proofs.Compared.{SameParts}
use Rattle.cf_term.proofs.comparing.+comparing.Given as goal

abbrev pub invariant-same_parts-loop-i : goal.invariant-same_parts-loop-i
invariant-same_parts-loop-i l = SameParts (terms (tm_of l.a)) (terms (tm_of l.b)) l.i

abbrev pub decreases-same : goal.decreases-same
decreases-same l = 2 * depth l.a.now + 1

abbrev pub decreases-same_parts : goal.decreases-same_parts
decreases-same_parts l = 2 * depth (tm_of l.a.now)
