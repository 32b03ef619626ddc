use Rattle.cf_core_text.proofs.Steps.{added}
use Rattle.cf_core_text.proofs.layouts.push_all.Goals as goal

pub returns : goal.returns
returns c = added _ _ _ c.in_ok-extend_from_slice.ensures.items
