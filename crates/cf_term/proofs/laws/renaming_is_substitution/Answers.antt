use Rattle.cf_term.proofs.Renaming.{ren-is-sub}
use Rattle.cf_term.proofs.laws.renaming_is_substitution.Goals as goal

pub returns : goal.returns
returns c = ren-is-sub
