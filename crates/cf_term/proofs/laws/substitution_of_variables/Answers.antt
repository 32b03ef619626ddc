use Rattle.cf_term.proofs.Renaming.{sub-var}
use Rattle.cf_term.proofs.laws.substitution_of_variables.Goals as goal

pub returns : goal.returns
returns c = sub-var
