use Rattle.cf_agreement.proofs.Agreed.{one_outcome_lem}
use Rattle.cf_agreement.proofs.laws.one_outcome.Goals as goal

pub returns : goal.returns
returns c = one_outcome_lem
