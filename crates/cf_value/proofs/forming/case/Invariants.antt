use Rattle.std.proofs.Common.{◌≡◌, ◌+◌, ◌++◌, length, drop}
use Rattle.std.specs.Vec.Iter.{into_iter_items, into_iter_len}
use Rattle.cf_term.specs.Core.{nil, cons}
use Rattle.cf_term.specs.View.{listed, heads}
use Rattle.cf_value.specs.Heads.{branches}
use Rattle.cf_value.proofs.Built.{bodies_before}
use Rattle.cf_value.proofs.forming.case.Given as goal

abbrev pub invariant-loop-a : goal.invariant-loop-a
invariant-loop-a l =
    (into_iter_len l.rest + l.a-index ≡ length l.fn.arms.items) × (heads l.made.items ++ branches (drop l.a-index l.fn.arms.items) ≡ branches l.fn.arms.items) ×
    (cons l.scrutinee.value (cons l.ty.value (bodies_before l.made.items (listed (into_iter_items l.rest) nil))) ≡ listed l.fn.parts.items nil)
