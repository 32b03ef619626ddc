use Rattle.std.proofs.Common.{arith}
use Rattle.std.proofs.lemmas.Bool.Decides.{nat_tests}
use Rattle.wb_syntax.specs.Grammar.{among}
use Rattle.wb_syntax.specs.Binary.{export_kinds}
use Rattle.wb_decode.proofs.Cases.{by_case}
use Rattle.wb_decode.proofs.exports.exported.Goals as goal

pub returns-in-0 : goal.returns-in-0
returns-in-0 c = by_case c.func.result (λ x. (x.0, x.1.now)) (among export_kinds) c.args.bytes.now c.in_ok-kind.rest.now c.in_ok-kind.kind 0 c.in_ok-kind.ensures.0 c.in-0.is c.func.ensures

pub returns-in-1 : goal.returns-in-1
returns-in-1 c = (c.in_ok-kind.rest.now, grind (arith, nat_tests, c.in_ok-kind.ensures.0))

pub returns-in-2 : goal.returns-in-2
returns-in-2 c = by_case c.memory.result (λ x. (x.0, x.1.now)) (among export_kinds) c.args.bytes.now c.in_ok-kind.rest.now c.in_ok-kind.kind 2 c.in_ok-kind.ensures.0 c.in-2.is c.memory.ensures

pub returns-in-3 : goal.returns-in-3
returns-in-3 c = by_case c.global.result (λ x. (x.0, x.1.now)) (among export_kinds) c.args.bytes.now c.in_ok-kind.rest.now c.in_ok-kind.kind 3 c.in_ok-kind.ensures.0 c.in-3.is c.global.ensures

pub returns-in_default : goal.returns-in_default
returns-in_default c = (c.in_ok-kind.rest.now, grind (arith, nat_tests, c.in_ok-kind.ensures.0))
