use Rattle.wb_syntax.proofs.Decoding.{decoded_exactly}
use Rattle.wb_syntax.proofs.laws.decoded_exactly.Goals as goal

pub returns : goal.returns
returns c = decoded_exactly
