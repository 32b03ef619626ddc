use Rattle.cf_exclusion.proofs.Runs.{runs_to_one}
use Rattle.cf_exclusion.proofs.laws.runs_to_one.Goals as goal

pub returns : goal.returns
returns c = runs_to_one c.encodes_one.ensures
