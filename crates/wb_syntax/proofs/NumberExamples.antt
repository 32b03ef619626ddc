-- Integer operations by opcode, at operands that tell most.
use Rattle.std.specs.Prelude.{◌≡◌, ◌+◌, ◌-◌, ◌^◌, refl}
use lib.Count.{count_leading_zeros}
use Rattle.wb_syntax.specs.Numbers.{Yields, ByZero, TooLarge, unary, binary}
use Rattle.wb_syntax.specs.Table.{row_at}

-- i64.div_s by zero
divided_by_zero : binary 0x7F 7 0 ≡ ByZero
unfolding row_at
divided_by_zero = refl

-- i64.div_s of the least number by -1
quotient_too_large : binary 0x7F (2 ^ 63) (2 ^ 64 - 1) ≡ TooLarge
unfolding row_at
quotient_too_large = refl

-- i64.rem_s of the least number by -1
remainder_of_least : binary 0x81 (2 ^ 63) (2 ^ 64 - 1) ≡ Yields 0
unfolding row_at
remainder_of_least = refl

-- i64.rem_s of -7 by 3 is -1
remainder_below_zero : binary 0x81 (2 ^ 64 - 7) 3 ≡ Yields (2 ^ 64 - 1)
unfolding row_at
remainder_below_zero = refl

-- i64.shl by 65 shifts by 1
shifted_past_the_width : binary 0x86 (2 ^ 63 + 5) 65 ≡ Yields 10
unfolding row_at
shifted_past_the_width = refl

-- i32.shr_s of -8 by 1 is -4
shifted_right : binary 0x75 (2 ^ 32 - 8) 1 ≡ Yields (2 ^ 32 - 4)
unfolding row_at
shifted_right = refl

-- i32.rotl by 1 carries the highest bit to the lowest
rotated : binary 0x77 (2 ^ 31 + 1) 1 ≡ Yields 3
unfolding row_at
rotated = refl

-- i64.clz of zero
all_zeros : unary 0x79 0 ≡ 64
unfolding row_at count_leading_zeros
all_zeros = refl
