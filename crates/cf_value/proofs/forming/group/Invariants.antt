use Rattle.std.proofs.Common.{◌≡◌, ◌+◌, ◌-◌, ◌*◌, length}
use Rattle.std.specs.Vec.Iter.{into_iter_items, into_iter_len}
use Rattle.cf_term.specs.Core.{nil}
use Rattle.cf_term.specs.View.{listed, definitions}
use Rattle.cf_value.proofs.forming.group.Given as goal

abbrev pub invariant-loop : goal.invariant-loop
invariant-loop l =
    (length l.definitions.items ≡ l.counter) × (into_iter_len l.rest ≡ 2 * (l.fn.count - l.counter) + 1) × (definitions l.definitions.items (listed (into_iter_items l.rest) nil) ≡ listed l.fn.parts.items nil)
