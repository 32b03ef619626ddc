use Rattle.std.proofs.Common.{◌∙◌, sym, ap, arith}
use Rattle.wb_syntax.specs.Grammar.{Reads}
use Rattle.wb_decode.proofs.Names.{name_is, no_name}
use Rattle.wb_decode.proofs.exports.name.Goals as goal

pub returns-in-Ok : goal.returns-in-Ok
returns-in-Ok c = (
  name_is c.in_ok-text.text.now c.args.bytes.now c.in_ok-text.rest.now c.in_ok-text.ensures.0 c.in-Ok.ensures.cases.1
      ∙ ap (λ t. Reads t c.in_ok-text.rest.now) (sym c.in-Ok.ensures.cases.0),
  omega (arith, c.in_ok-text.ensures.1),
)

pub returns-in-Err : goal.returns-in-Err
returns-in-Err c = no_name c.in_ok-text.text.now c.args.bytes.now c.in_ok-text.rest.now c.in_ok-text.ensures.0 c.in-Err.ensures.cases.0
