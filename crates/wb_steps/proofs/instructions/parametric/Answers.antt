use Rattle.wb_steps.proofs.Instructed.{drop_law, select_law, nop_law, unreachable_law}
use Rattle.wb_steps.proofs.instructions.parametric.Goals as goal

pub returns : goal.returns
returns c = record { drop = drop_law; select = select_law; nop = nop_law; unreachable = unreachable_law }
