use Rattle.std.proofs.Common.{◌+◌, arith}
use Rattle.cf_lex.proofs.Widths.{width-more, width-split}
use Rattle.cf_lex.proofs.lexing.bytes_len.Goals as goal

pub overflow_add-n : goal.overflow_add-n
overflow_add-n c =
    let more = width-more c.args.chars.now c.loop-c.c-index c.c-item.result c.loop-c-test.true c.c-item.is in
    omega (arith, more, width-split (c.loop-c.c-index + 1) c.args.chars.now, c.loop-c.invariant, c.len_utf8.ensures.value, c.requires)

pub loop-c-preserved : goal.loop-c-preserved
loop-c-preserved c =
    let more = width-more c.args.chars.now c.loop-c.c-index c.c-item.result c.loop-c-test.true c.c-item.is in
    omega (arith, more, c.loop-c.invariant, c.len_utf8.ensures.value)
