use Rattle.cf_reduction.proofs.KeepsHoles.{normal_keeps_holes}
use Rattle.cf_reduction.proofs.normal_forms_keep_holes.Goals as goal

pub returns : goal.returns
returns c = normal_keeps_holes
