use Rattle.cf_term.proofs.Renaming.{ren-ren}
use Rattle.cf_term.proofs.laws.renamings_compose.Goals as goal

pub returns : goal.returns
returns c = ren-ren
