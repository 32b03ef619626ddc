use Rattle.wb_steps.proofs.Controlled.{br_law, br_if_law, br_if_is_passed, br_table_law}
use Rattle.wb_steps.proofs.instructions.branches.Goals as goal

pub returns : goal.returns
returns c = record { br = br_law; br_if = br_if_law; br_if_passed = br_if_is_passed; br_table = br_table_law }
