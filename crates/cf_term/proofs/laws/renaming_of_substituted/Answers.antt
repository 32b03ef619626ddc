use Rattle.cf_term.proofs.Renaming.{ren-sub}
use Rattle.cf_term.proofs.laws.renaming_of_substituted.Goals as goal

pub returns : goal.returns
returns c = ren-sub
