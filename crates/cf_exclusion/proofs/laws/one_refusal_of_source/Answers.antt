use Rattle.cf_exclusion.proofs.Unread.{one_refusal}
use Rattle.cf_exclusion.proofs.laws.one_refusal_of_source.Goals as goal

pub returns : goal.returns
returns c = one_refusal c.lexes_one.ensures c.one_choice.ensures
