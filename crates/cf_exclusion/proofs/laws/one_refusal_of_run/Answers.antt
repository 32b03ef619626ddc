use Rattle.cf_exclusion.proofs.Runs.{one_refusal}
use Rattle.cf_exclusion.proofs.laws.one_refusal_of_run.Goals as goal

pub returns : goal.returns
returns c = one_refusal c.decoded_exactly.ensures c.first_is_one.ensures.one c.first_is_one.ensures.none
