use Rattle.cf_value.proofs.Terms.{under_binders}
use Rattle.cf_value.proofs.laws.environment_under_binders.Goals as goal

pub returns : goal.returns
returns c = under_binders c.renaming_of_value.ensures
