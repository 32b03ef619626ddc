use Rattle.std.proofs.Common.{◌<◌, length, arith}
use Rattle.std.proofs.lemmas.Bool.Decides.{nat_tests}
use Rattle.wb_decode.specs.Reading.{entry}
use Rattle.wb_decode.proofs.Values.{contents_short}
use Rattle.wb_decode.proofs.codes.CodeSpelled.read.Goals as goal

pub returns-else-is_empty : goal.returns-else-is_empty
returns-else-is_empty c =
    let more : 0 < length c.in_ok-code.more.now = grind (arith, nat_tests, c.if-is_empty.false, c.if-is_empty.ensures) in
    contents_short entry (c.in_ok-code.code.0, c.in_ok-code.code.1) c.args.bytes.now c.in_ok-contents.contents.now c.in_ok-code.more.now c.in_ok-contents.rest.now c.in_ok-contents.ensures.0 c.in_ok-code.ensures.0 more
