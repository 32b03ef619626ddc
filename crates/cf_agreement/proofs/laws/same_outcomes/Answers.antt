use Rattle.cf_agreement.proofs.Agreed.{same_outcomes_lem}
use Rattle.cf_agreement.proofs.laws.same_outcomes.Goals as goal

pub returns : goal.returns
returns c = same_outcomes_lem
