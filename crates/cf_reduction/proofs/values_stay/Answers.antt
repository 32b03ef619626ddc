use Rattle.cf_reduction.proofs.Settled.{values_stay}
use Rattle.cf_reduction.proofs.values_stay.Goals as goal

pub returns : goal.returns
returns c = values_stay
