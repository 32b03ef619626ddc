use Rattle.std.proofs.Common.{◌-◌, arith}
use Rattle.wb_encode.proofs.Appending.{after_byte, pushed, known}
use Rattle.wb_encode.proofs.Leb.{unsigned_one, unsigned_high, unsigned_more, unsigned_parts}
use Rattle.wb_encode.proofs.numbers.+push_unsigned.Goals as goal

pub returns-in_ok-push_unsigned : goal.returns-in_ok-push_unsigned
returns-in_ok-push_unsigned t c = λ bits h.
    after_byte (pushed c.in_ok-push-2.ensures.items)
    (c.in_ok-push_unsigned.ensures (bits - 7) (unsigned_high bits c.args.n (omega arith) h))
    (unsigned_more bits c.args.n (omega arith) h) (unsigned_parts bits c.args.n (omega arith))

pub returns-in_ok-push : goal.returns-in_ok-push
returns-in_ok-push t c = λ bits h. known c.in_ok-push.ensures.items (unsigned_one bits c.args.n c.if-n-lt128.true h)
