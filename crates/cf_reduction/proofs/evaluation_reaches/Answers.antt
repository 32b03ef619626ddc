use Rattle.cf_reduction.proofs.Reached.{evaluation_reaches}
use Rattle.cf_reduction.proofs.evaluation_reaches.Goals as goal

pub returns : goal.returns
returns c = evaluation_reaches
