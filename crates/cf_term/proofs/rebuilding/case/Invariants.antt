use Rattle.std.proofs.Common.{◌≡◌, ◌+◌, ◌++◌, length, drop}
use Rattle.std.specs.Vec.Iter.{into_iter_items, into_iter_len}
use Rattle.cf_term.specs.Core.{nil, cons}
use Rattle.cf_term.specs.View.{listed, heads}
use Rattle.cf_term.proofs.Rebuilt.{bodies_then}
use Rattle.cf_term.proofs.rebuilding.case.Given as goal

abbrev pub invariant-loop-b : goal.invariant-loop-b
invariant-loop-b l =
    (into_iter_len l.rest + l.b-index ≡ length l.fn.branches.items) × (heads l.made.items ++ heads (drop l.b-index l.fn.branches.items) ≡ heads l.fn.branches.items) ×
    (cons l.scrutinee.value (cons l.ty.value (bodies_then l.made.items (listed (into_iter_items l.rest) nil))) ≡ listed l.fn.parts.items nil)
