use Rattle.cf_reduction.proofs.Unfolding.{goes_on}
use Rattle.cf_reduction.proofs.evaluation_goes_on.Goals as goal

pub returns : goal.returns
returns c = goes_on
