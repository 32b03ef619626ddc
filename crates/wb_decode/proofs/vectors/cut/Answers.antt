use Rattle.wb_decode.proofs.Values.{size_past}
use Rattle.wb_decode.proofs.vectors.cut.Goals as goal

pub returns-else-size-rest : goal.returns-else-size-rest
returns-else-size-rest c = size_past c.in_ok-size.size c.args.bytes.now c.in_ok-size.rest.now c.in_ok-size.ensures.0 c.if-size-rest.false
