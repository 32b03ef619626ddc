use Rattle.std.proofs.Common.{arith}
use Rattle.std.proofs.lemmas.Bool.Decides.{nat_tests}
use Rattle.wb_decode.proofs.instructions.memory_size.Goals as goal

pub returns-in_default : goal.returns-in_default
returns-in_default c = (c.in_ok-byte.rest.now, grind (arith, nat_tests, c.in_ok-byte.ensures.0))
