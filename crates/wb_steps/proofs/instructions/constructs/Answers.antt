use Rattle.wb_steps.proofs.Controlled.{block_law, loop_law, if_else_law, if_law, if_is_passed, label_is_left}
use Rattle.wb_steps.proofs.instructions.constructs.Goals as goal

pub returns : goal.returns
returns c = record { block = block_law; loops = loop_law; if_else = if_else_law; if_alone = if_law; if_passed = if_is_passed; left = label_is_left }
