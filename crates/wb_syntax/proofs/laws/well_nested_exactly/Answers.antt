use Rattle.wb_syntax.proofs.WellNested.{well_nested_exactly}
use Rattle.wb_syntax.proofs.laws.well_nested_exactly.Goals as goal

pub returns : goal.returns
returns c = well_nested_exactly
