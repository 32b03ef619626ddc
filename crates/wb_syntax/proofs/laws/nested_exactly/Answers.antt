use Rattle.wb_syntax.proofs.Nests.{nested_exactly}
use Rattle.wb_syntax.proofs.laws.nested_exactly.Goals as goal

pub returns : goal.returns
returns c = nested_exactly
