use Rattle.cf_value.proofs.Terms.{put_in}
use Rattle.cf_value.proofs.laws.argument_put_in.Goals as goal

pub returns : goal.returns
returns c = put_in c.substitutions_compose.ensures c.substitution_of_renamed.ensures c.substitution_of_variables.ensures
