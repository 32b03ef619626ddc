use Rattle.cf_reduction.proofs.Unfolding.{spent}
use Rattle.cf_reduction.proofs.evaluation_spends.Goals as goal

pub returns : goal.returns
returns c = spent
