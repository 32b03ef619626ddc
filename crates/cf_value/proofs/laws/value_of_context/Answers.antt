use Rattle.cf_value.proofs.Terms.{stands_for_value}
use Rattle.cf_value.proofs.laws.value_of_context.Goals as goal

pub returns : goal.returns
returns c = stands_for_value
