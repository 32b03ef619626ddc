use Rattle.std.proofs.Common.{arith}
use Rattle.std.proofs.lemmas.Bool.Decides.{nat_tests}
use Rattle.wb_syntax.specs.Grammar.{among}
use Rattle.wb_syntax.specs.Binary.{limit_forms}
use Rattle.wb_decode.proofs.Cases.{by_case}
use Rattle.wb_decode.proofs.types.limits.Goals as goal

pub returns-in-0 : goal.returns-in-0
returns-in-0 c = by_case c.at_least.result (λ x. (x.0, x.1.now)) (among limit_forms) c.args.bytes.now c.in_ok-form.rest.now c.in_ok-form.form 0 c.in_ok-form.ensures.0 c.in-0.is c.at_least.ensures

pub returns-in-1 : goal.returns-in-1
returns-in-1 c = by_case c.within.result (λ x. (x.0, x.1.now)) (among limit_forms) c.args.bytes.now c.in_ok-form.rest.now c.in_ok-form.form 1 c.in_ok-form.ensures.0 c.in-1.is c.within.ensures

pub returns-in_default : goal.returns-in_default
returns-in_default c = (c.in_ok-form.rest.now, grind (arith, nat_tests, c.in_ok-form.ensures.0))
