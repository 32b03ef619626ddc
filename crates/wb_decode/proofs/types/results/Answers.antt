use Rattle.std.proofs.Common.{arith}
use Rattle.wb_decode.proofs.Cases.{many_results}
use Rattle.wb_decode.proofs.types.results.Goals as goal

pub returns-in_default : goal.returns-in_default
returns-in_default c = many_results c.in_ok-count.count c.args.bytes.now c.in_ok-count.rest.now c.in_ok-count.ensures.0 (omega (arith, c.in_default))
