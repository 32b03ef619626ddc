use Rattle.cf_value.proofs.Terms.{readings}
use Rattle.cf_value.proofs.laws.readings_agree.Goals as goal

pub returns : goal.returns
returns c = readings
