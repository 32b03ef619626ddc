use Rattle.cf_value.proofs.Terms.{under}
use Rattle.cf_value.proofs.laws.value_under_binders.Goals as goal

pub returns : goal.returns
returns c = under
