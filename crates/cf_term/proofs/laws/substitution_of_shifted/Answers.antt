use Rattle.cf_term.proofs.UnderBinders.{sub-shifted}
use Rattle.cf_term.proofs.laws.substitution_of_shifted.Goals as goal

pub returns : goal.returns
returns c = sub-shifted
