use Rattle.std.proofs.Common.{arith}
use Rattle.cf_core_text.proofs.Emitted.{less_deep}
use Rattle.cf_core_text.proofs.printing.+printing.Goals as goal

pub print_items-print_item-requires : goal.print_items-print_item-requires
print_items-print_item-requires t c = (
  omega (arith, less_deep c.args.items.now.items c.deref-item-items.result.now c.loop-item.item-index c.item-item.result c.deref-item-items.ensures.value c.loop-item-test.true c.item-item.is),
  tt,
)
