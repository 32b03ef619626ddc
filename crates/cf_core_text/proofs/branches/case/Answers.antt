use Rattle.std.proofs.Common.{refl, arith, append_assoc}
use Rattle.cf_core_text.proofs.Steps.{then_added, laid}
use Rattle.cf_core_text.proofs.branches.case.Goals as goal

pub returns : goal.returns
returns c = laid _ _ _ _ _ _ (then_added c.in_ok-push_all.ensures c.in_ok-push_arms.ensures) c.new-items.ensures.items refl (simp append_assoc) (omega arith)
