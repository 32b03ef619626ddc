use Rattle.cf_value.proofs.Terms.{renaming}
use Rattle.cf_value.proofs.laws.renaming_of_value.Goals as goal

pub returns : goal.returns
returns c = renaming c.renamings_compose.ensures c.renaming_of_substituted.ensures
