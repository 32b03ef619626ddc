use Rattle.cf_reduction.proofs.KeepsHoles.{keep_holes}
use Rattle.cf_reduction.proofs.reductions_keep_holes.Goals as goal

pub returns : goal.returns
returns c = keep_holes
