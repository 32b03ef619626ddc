use Rattle.cf_value.proofs.Terms.{variables}
use Rattle.cf_value.proofs.laws.variables_are_values.Goals as goal

pub returns : goal.returns
returns c = variables
