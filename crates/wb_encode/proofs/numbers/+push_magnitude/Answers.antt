use Rattle.std.proofs.Common.{◌-◌, arith}
use Rattle.wb_encode.proofs.Appending.{after_byte, pushed, known}
use Rattle.wb_encode.proofs.Leb.{signed_one, signed_high, signed_more, signed_parts}
use Rattle.wb_encode.proofs.numbers.+push_magnitude.Goals as goal

pub returns-in_ok-push_magnitude : goal.returns-in_ok-push_magnitude
returns-in_ok-push_magnitude t c = λ bits h.
    after_byte (pushed c.in_ok-push-2.ensures.items)
    (c.in_ok-push_magnitude.ensures (bits - 7) (signed_high bits c.args.m (omega arith) h))
    (signed_more bits c.args.m c.low_bits-low.result c.args.negative c.low_bits-low.ensures (omega arith) h)
    (signed_parts bits c.args.m c.low_bits-low.result c.args.negative c.low_bits-low.ensures (omega arith))

pub returns-in_ok-push : goal.returns-in_ok-push
returns-in_ok-push t c = λ bits h. known c.in_ok-push.ensures.items (signed_one bits c.args.m c.low_bits-low.result c.args.negative c.low_bits-low.ensures c.if-m-lt64.true h)
