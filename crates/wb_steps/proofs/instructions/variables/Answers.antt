use Rattle.wb_steps.proofs.Instructed.{local_get_law, local_set_law, local_tee_law, global_get_law, global_set_law}
use Rattle.wb_steps.proofs.instructions.variables.Goals as goal

pub returns : goal.returns
returns c = record {
  local_get = local_get_law;
  local_set = local_set_law;
  local_tee = local_tee_law;
  global_get = global_get_law;
  global_set = global_set_law;
}
