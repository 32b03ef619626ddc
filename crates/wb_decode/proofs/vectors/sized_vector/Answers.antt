use Rattle.std.proofs.Common.{◌<◌, length, arith}
use Rattle.std.proofs.lemmas.Bool.Decides.{nat_tests}
use Rattle.wb_syntax.specs.Grammar.{vec}
use Rattle.wb_decode.proofs.Values.{contents_short}
use Rattle.wb_decode.proofs.vectors.sized_vector.Goals as goal

pub returns-else-is_empty : goal.returns-else-is_empty
returns-else-is_empty g c =
    let more : 0 < length c.in_ok-items.more.now = grind (arith, nat_tests, c.if-is_empty.false, c.if-is_empty.ensures) in
    contents_short (vec g.T.Spelled.grammar) c.in_ok-items.items c.args.bytes.now c.in_ok-contents.contents.now c.in_ok-items.more.now c.in_ok-contents.rest.now c.in_ok-contents.ensures.0 c.in_ok-items.ensures.0 more
