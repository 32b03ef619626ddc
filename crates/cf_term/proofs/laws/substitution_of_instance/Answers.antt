use Rattle.cf_term.proofs.Renaming.{sub-inst}
use Rattle.cf_term.proofs.laws.substitution_of_instance.Goals as goal

pub returns : goal.returns
returns c = sub-inst
