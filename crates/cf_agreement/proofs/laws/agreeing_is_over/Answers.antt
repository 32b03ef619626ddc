use Rattle.cf_agreement.proofs.Agreed.{agreeing_is_over_lem}
use Rattle.cf_agreement.proofs.laws.agreeing_is_over.Goals as goal

pub returns : goal.returns
returns c = agreeing_is_over_lem
