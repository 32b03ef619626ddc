use Rattle.wb_syntax.proofs.Typed.{typed_is_proper}
use Rattle.wb_syntax.proofs.laws.typed_is_proper.Goals as goal

pub returns : goal.returns
returns c = typed_is_proper
