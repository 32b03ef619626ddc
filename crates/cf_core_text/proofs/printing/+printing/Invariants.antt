use Rattle.std.proofs.Common.{◌≡◌, ◌+◌, ◌*◌, ◌++◌, [], ◌∷◌, drop}
use Rattle.cf_term.specs.Core.{depth}
use Rattle.cf_core_text.specs.Layout.{deepest, flat}
use Rattle.cf_core_text.proofs.printing.+printing.Given as goal

abbrev pub decreases-print : goal.decreases-print
decreases-print l = 3 * depth l.term.now

abbrev pub decreases-print_item : goal.decreases-print_item
decreases-print_item l = 3 * deepest (l.item ∷ []) + 1

abbrev pub decreases-print_items : goal.decreases-print_items
decreases-print_items l = 3 * deepest l.items.now.items + 2

abbrev pub invariant-print_items-loop-item : goal.invariant-print_items-loop-item
invariant-print_items-loop-item l = l.out.items ++ flat (drop l.item-index l.item-items) ≡ l.fn.out.items ++ flat l.items.items
