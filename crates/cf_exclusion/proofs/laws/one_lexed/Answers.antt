use Rattle.cf_exclusion.proofs.Texts.{one_lexed}
use Rattle.cf_exclusion.proofs.laws.one_lexed.Goals as goal

pub returns : goal.returns
returns c = one_lexed c.lexes_one.ensures
