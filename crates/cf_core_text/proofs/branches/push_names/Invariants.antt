use Rattle.std.proofs.Common.{◌-◌, []}
use Rattle.cf_core_text.specs.Pieces.{names, under}
use Rattle.cf_core_text.proofs.Steps.{Continues}
use Rattle.cf_core_text.proofs.branches.push_names.Given as goal

abbrev pub invariant-loop-k : goal.invariant-loop-k
invariant-loop-k l =
    Continues l.fn.items.items l.items.items (names l.s.globals (under l.s.depth l.k) (l.count - l.k) []) 0 (names l.s.globals l.s.depth l.count []) 0
