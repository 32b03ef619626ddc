use Rattle.std.proofs.Common.{refl, arith}
use Rattle.cf_core_text.proofs.Steps.{then_added, laid}
use Rattle.cf_core_text.proofs.lists.data.Goals as goal

pub returns : goal.returns
returns c =
    laid _ _ _ _ _ _ (then_added (then_added c.in_ok-push_all.ensures c.in_ok-push_listed.ensures) c.in_ok-push_all-2.ensures) c.new-items.ensures.items refl refl (omega arith)
