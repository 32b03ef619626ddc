use Rattle.std.proofs.Common.{arith}
use Rattle.std.proofs.lemmas.Bool.Decides.{nat_tests}
use Rattle.wb_decode.proofs.types.value_type.Goals as goal

pub returns-in-125 : goal.returns-in-125
returns-in-125 c = (c.in_ok-byte.rest.now, grind (arith, nat_tests, c.in_ok-byte.ensures.0))

pub returns-in-124 : goal.returns-in-124
returns-in-124 c = (c.in_ok-byte.rest.now, grind (arith, nat_tests, c.in_ok-byte.ensures.0))

pub returns-in_default : goal.returns-in_default
returns-in_default c = (c.in_ok-byte.rest.now, grind (arith, nat_tests, c.in_ok-byte.ensures.0))
