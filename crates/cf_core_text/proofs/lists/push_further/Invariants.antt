use Rattle.std.proofs.Common.{[], drop}
use Rattle.cf_term.specs.Core.{depth_all, nil}
use Rattle.cf_term.specs.View.{listed}
use Rattle.cf_core_text.specs.Pieces.{further, printed_all}
use Rattle.cf_core_text.proofs.Steps.{Continues}
use Rattle.cf_core_text.proofs.lists.push_further.Given as goal

abbrev pub invariant-loop-t : goal.invariant-loop-t
invariant-loop-t l =
    Continues l.fn.items.items l.items.items
    (further (printed_all l.s.globals l.s.depth [] (listed (drop l.t-index l.ts) nil)))
    (depth_all (listed (drop l.t-index l.ts) nil))
    (further (printed_all l.s.globals l.s.depth [] (listed l.ts nil)))
    (depth_all (listed l.ts nil))
