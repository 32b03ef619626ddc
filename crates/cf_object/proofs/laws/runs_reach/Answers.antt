use Rattle.cf_object.proofs.Moved.{runs_reach_lem, runs_go_on_lem}
use Rattle.cf_object.proofs.laws.runs_reach.Goals as goal

pub returns-clause-same : goal.returns-clause-same
returns-clause-same c = runs_reach_lem

pub returns-clause-more : goal.returns-clause-more
returns-clause-more c = runs_go_on_lem
