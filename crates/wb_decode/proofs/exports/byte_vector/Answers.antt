use Rattle.std.proofs.Common.{◌∙◌, sym, arith}
use Rattle.wb_syntax.specs.Grammar.{Reads}
use Rattle.wb_decode.proofs.Names.{vector_there, vector_missing}
use Rattle.wb_decode.proofs.exports.byte_vector.Goals as goal

pub returns-then-length-rest : goal.returns-then-length-rest
returns-then-length-rest c = (
  vector_there c.in_ok-length.length c.args.bytes.now c.in_ok-length.rest.now c.in_ok-length.ensures.0 c.if-length-rest.true
      ∙ sym (λ i. Reads (c.split_at.ensures.front i) (c.split_at.ensures.back i)),
  omega (arith, c.split_at.ensures.back_len, c.in_ok-length.ensures.1),
)

pub returns-else-length-rest : goal.returns-else-length-rest
returns-else-length-rest c = vector_missing c.in_ok-length.length c.args.bytes.now c.in_ok-length.rest.now c.in_ok-length.ensures.0 c.if-length-rest.false
