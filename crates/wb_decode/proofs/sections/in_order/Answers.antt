use Rattle.std.proofs.Common.{arith}
use Rattle.std.proofs.lemmas.Bool.Decides.{nat_tests}
use Rattle.wb_decode.proofs.sections.in_order.Goals as goal

pub returns-then-id-last : goal.returns-then-id-last
returns-then-id-last c = (c.args.bytes.now, grind (arith, nat_tests))
