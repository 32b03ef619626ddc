use Rattle.cf_term.proofs.Renaming.{sub-ren}
use Rattle.cf_term.proofs.laws.substitution_of_renamed.Goals as goal

pub returns : goal.returns
returns c = sub-ren
