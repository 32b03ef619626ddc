use Rattle.wb_steps.proofs.Setting.{set_is_read, others_are_read, count_stays}
use Rattle.wb_steps.proofs.values.variables_set.Goals as goal

pub returns : goal.returns
returns c = record { read = set_is_read; others = others_are_read; count = count_stays }
