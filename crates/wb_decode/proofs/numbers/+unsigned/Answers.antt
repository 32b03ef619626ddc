use Rattle.std.proofs.Common.{arith}
use Rattle.wb_decode.proofs.Widths.{power_below, unsigned_more, unsigned_long, unsigned_unused}
use Rattle.wb_decode.proofs.numbers.+unsigned.Goals as goal

pub overflow_mul-result : goal.overflow_mul-result
overflow_mul-result t c =
    let h = unsigned_more c.args.bits c.in_ok-byte.byte c.in_ok-high.high (omega arith) (omega arith) c.in_ok-byte.ensures.1 c.in_ok-high.ensures.range in
    let k = power_below c.args.bits 32 c.requires in
    omega (arith, h, k)

pub overflow_add-result : goal.overflow_add-result
overflow_add-result t c =
    let h = unsigned_more c.args.bits c.in_ok-byte.byte c.in_ok-high.high (omega arith) (omega arith) c.in_ok-byte.ensures.1 c.in_ok-high.ensures.range in
    let k = power_below c.args.bits 32 c.requires in
    omega (arith, h, k)

pub returns-in_ok-high-clause-range : goal.returns-in_ok-high-clause-range
returns-in_ok-high-clause-range t c =
    let h = unsigned_more c.args.bits c.in_ok-byte.byte c.in_ok-high.high (omega arith) (omega arith) c.in_ok-byte.ensures.1 c.in_ok-high.ensures.range in
    omega (arith, h)

pub returns-else-from-numbers_of-clause-reading : goal.returns-else-from-numbers_of-clause-reading
returns-else-from-numbers_of-clause-reading t c = unsigned_unused c.args.bits c.in_ok-byte.byte c.args.bytes.now c.in_ok-byte.rest.now c.in_ok-byte.ensures.0 (omega arith) (omega arith)

pub returns-then-bits-le7-clause-reading : goal.returns-then-bits-le7-clause-reading
returns-then-bits-le7-clause-reading t c = unsigned_long c.args.bits c.in_ok-byte.byte c.args.bytes.now c.in_ok-byte.rest.now c.in_ok-byte.ensures.0 (omega arith) c.in_ok-byte.ensures.1 (omega arith)
