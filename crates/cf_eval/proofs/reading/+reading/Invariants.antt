use Rattle.std.proofs.Common.{◌*◌, ◌+◌}
use Rattle.cf_term.specs.Core.{parts}
use Rattle.cf_value.specs.Contexts.{below}
use Rattle.cf_value.specs.Heads.{head_of}
use Rattle.cf_eval.specs.Scopes.{at_of}
use Rattle.cf_eval.proofs.Writes.{Writes}
use Rattle.cf_eval.proofs.reading.+reading.Given as goal

abbrev pub decreases-read : goal.decreases-read
decreases-read l = 5 * l.steps

abbrev pub decreases-read_under : goal.decreases-read_under
decreases-read_under l = 5 * l.steps + 1

abbrev pub decreases-read_part : goal.decreases-read_part
decreases-read_part l = 5 * l.steps + 2

abbrev pub decreases-read_parts : goal.decreases-read_parts
decreases-read_parts l = 5 * l.steps + 3

abbrev pub decreases-read_form : goal.decreases-read_form
decreases-read_form l = 5 * l.steps + 4

-- the parts written, and the parts still to come
abbrev pub invariant-read_parts-loop-i : goal.invariant-read_parts-loop-i
invariant-read_parts-loop-i l = Writes (below l.depth) (at_of l.scope) l.first (parts (head_of l.shape)) l.parts.items l.steps l.nest l.terms.items l.i l.left
