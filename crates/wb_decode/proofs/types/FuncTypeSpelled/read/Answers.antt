use Rattle.std.proofs.Common.{arith, []}
use Rattle.std.proofs.lemmas.Bool.Decides.{nat_tests}
use Rattle.std.proofs.Common.{◌∷◌}
use Rattle.wb_syntax.specs.Grammar.{among, case}
use Rattle.wb_decode.specs.Reading.{signature}
use Rattle.wb_decode.proofs.Cases.{by_case}
use Rattle.wb_decode.proofs.types.FuncTypeSpelled.read.Goals as goal

pub returns-then-byte-eq96 : goal.returns-then-byte-eq96
returns-then-byte-eq96 c = by_case c.signature.result (λ x. (x.0, x.1.now)) (among (case 0x60 signature ∷ [])) c.args.bytes.now c.in_ok-byte.rest.now c.in_ok-byte.byte 0x60 c.in_ok-byte.ensures.0 c.if-byte-eq96.true c.signature.ensures

pub returns-else-byte-eq96 : goal.returns-else-byte-eq96
returns-else-byte-eq96 c = (c.in_ok-byte.rest.now, grind (arith, nat_tests, c.in_ok-byte.ensures.0))
