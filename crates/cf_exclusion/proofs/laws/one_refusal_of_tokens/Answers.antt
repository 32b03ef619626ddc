use Rattle.cf_exclusion.proofs.Refused.{one_refusal}
use Rattle.cf_exclusion.proofs.laws.one_refusal_of_tokens.Goals as goal

pub returns : goal.returns
returns c = one_refusal c.one_choice.ensures
