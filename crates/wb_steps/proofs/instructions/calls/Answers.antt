use Rattle.wb_steps.proofs.Controlled.{call_law}
use Rattle.wb_steps.proofs.instructions.calls.Goals as goal

pub returns : goal.returns
returns c = call_law
