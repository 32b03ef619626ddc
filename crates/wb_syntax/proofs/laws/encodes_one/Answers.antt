use Rattle.wb_syntax.proofs.Decoding.{encodes_one}
use Rattle.wb_syntax.proofs.laws.encodes_one.Goals as goal

pub returns : goal.returns
returns c = encodes_one
