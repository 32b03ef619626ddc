use Rattle.cf_exclusion.proofs.Runs.{refuses_no_run}
use Rattle.cf_exclusion.proofs.laws.refuses_no_run.Goals as goal

pub returns : goal.returns
returns c = refuses_no_run c.decoded_exactly.ensures c.first_is_one.ensures.one c.first_is_one.ensures.none
