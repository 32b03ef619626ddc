use Rattle.cf_simulation.proofs.Followed.{reach_more, weight_more}
use Rattle.cf_simulation.proofs.laws.steps_add_up.Goals as goal

pub returns-clause-runs : goal.returns-clause-runs
returns-clause-runs g c = λ f k j s t e. reach_more f k j s t e

pub returns-clause-weights : goal.returns-clause-weights
returns-clause-weights g c = λ f w k j s t e. weight_more f w k j s t e
