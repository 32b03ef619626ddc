use Rattle.cf_value.proofs.Terms.{out}
use Rattle.cf_value.proofs.laws.value_out_of_binders.Goals as goal

pub returns : goal.returns
returns c = out
