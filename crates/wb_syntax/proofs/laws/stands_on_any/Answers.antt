use Rattle.wb_syntax.proofs.Below.{stands_on_any}
use Rattle.wb_syntax.proofs.laws.stands_on_any.Goals as goal

pub returns : goal.returns
returns c = stands_on_any
