use Rattle.cf_term.proofs.Renaming.{sub-sub}
use Rattle.cf_term.proofs.laws.substitutions_compose.Goals as goal

pub returns : goal.returns
returns c = sub-sub
