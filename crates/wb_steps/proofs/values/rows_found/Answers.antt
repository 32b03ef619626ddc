use Rattle.wb_steps.proofs.Operating.{rows_are_found}
use Rattle.wb_steps.proofs.values.rows_found.Goals as goal

pub returns : goal.returns
returns c = rows_are_found
