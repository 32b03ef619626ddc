-- Integer operations (the standard, 4.3.2) and conversions between integers (4.3.4). A word of N bits is a number below 2 ^ N; signed operations read it in two's complement.
use Rattle.std.specs.Prelude.{ℕ, ◌+◌, ◌-◌, ◌*◌, ◌/◌, ◌%◌, ◌^◌, Bool, true, false, ◌==◌, ◌&&◌, not, nat_lt, nat_le, ℤ, int_lt, int_le, int_div, int_rem, bit_and, bit_or, bit_xor, count_ones}
use Rattle.std.specs.Int.{Width, w32, w64, cast_signed, cast_unsigned, leading_zeros, trailing_zeros, rotate_left, rotate_right, int_shr}
use Rattle.wb_syntax.specs.Syntax.{NumType, I32, I64}
use Rattle.wb_syntax.specs.Table.{UnaryOp, Eqz, Clz, Ctz, Popcnt, Wrap, ExtendS, ExtendU, BinaryOp, Eq, Ne, LtS, LtU, GtS, GtU, LeS, LeU, GeS, GeU, Add, Sub, Mul, DivS, DivU, RemS, RemU, And, Or, Xor, Shl, ShrS, ShrU, Rotl, Rotr, Row, Takes1, Takes2, row_at}

-- the width of a type, in the words of std
abbrev pub width : NumType → Width
width I32 = w32
width I64 = w64

-- the bits of a word of a type
abbrev pub bits_of : NumType → ℕ
bits_of I32 = 32
bits_of I64 = 64

-- a number below 2 ^ N as one from -2 ^ (N - 1) on, and back
abbrev pub signed : NumType → ℕ → ℤ
signed t n = cast_signed (width t) n

-- a number as the word that stands for it
abbrev pub unsigned : NumType → ℤ → ℕ
unsigned t z = cast_unsigned (width t) z

-- what an operation yields, or why it traps: a zero divisor, or a quotient that has no word
pub data Numeric : Type 0 where
  Yields : ℕ → Numeric
  ByZero : Numeric
  TooLarge : Numeric

-- a test as a word: 1 where it holds, 0 where not
abbrev pub word_of : Bool → ℕ
word_of true = 1
word_of false = 0

-- no number is divided by zero
abbrev pub unless_zero : ℕ → Numeric → Numeric
unless_zero b r = elim (b == 0) [ true ↦ ByZero | false ↦ r ]

-- the quotient is rounded toward zero; that of the least number by -1 is 2 ^ (N - 1), which has no word
abbrev pub quotient : NumType → ℕ → ℕ → Numeric
quotient t a b = elim ((a == 2 ^ (bits_of t - 1)) && (b == 2 ^ bits_of t - 1)) [ true ↦ TooLarge | false ↦ Yields (unsigned t (int_div (signed t a) (signed t b))) ]

-- one operand of this type
abbrev pub unary_of : NumType → UnaryOp → ℕ → ℕ
unary_of t Eqz a = word_of (a == 0)
-- all bits of 0 are leading and trailing zeros
unary_of t Clz a = leading_zeros (width t) a
unary_of t Ctz a = trailing_zeros (width t) a
unary_of t Popcnt a = count_ones a
unary_of t Wrap a = a % 2 ^ 32
unary_of t ExtendS a = unsigned I64 (signed I32 a)
unary_of t ExtendU a = a

-- two operands of this type, the first one below the second on the stack
abbrev pub binary_of : NumType → BinaryOp → ℕ → ℕ → Numeric
binary_of t Eq a b = Yields (word_of (a == b))
binary_of t Ne a b = Yields (word_of (not (a == b)))
binary_of t LtS a b = Yields (word_of (int_lt (signed t a) (signed t b)))
binary_of t LtU a b = Yields (word_of (nat_lt a b))
binary_of t GtS a b = Yields (word_of (int_lt (signed t b) (signed t a)))
binary_of t GtU a b = Yields (word_of (nat_lt b a))
binary_of t LeS a b = Yields (word_of (int_le (signed t a) (signed t b)))
binary_of t LeU a b = Yields (word_of (nat_le a b))
binary_of t GeS a b = Yields (word_of (int_le (signed t b) (signed t a)))
binary_of t GeU a b = Yields (word_of (nat_le b a))
binary_of t Add a b = Yields ((a + b) % 2 ^ bits_of t)
binary_of t Sub a b = Yields ((a + (2 ^ bits_of t - b)) % 2 ^ bits_of t)
binary_of t Mul a b = Yields ((a * b) % 2 ^ bits_of t)
binary_of t DivS a b = unless_zero b (quotient t a b)
binary_of t DivU a b = unless_zero b (Yields (a / b))
-- the remainder has the sign of the dividend; that of the least number by -1 is 0
binary_of t RemS a b = unless_zero b (Yields (unsigned t (int_rem (signed t a) (signed t b))))
binary_of t RemU a b = unless_zero b (Yields (a % b))
binary_of t And a b = Yields (bit_and a b)
binary_of t Or a b = Yields (bit_or a b)
binary_of t Xor a b = Yields (bit_xor a b)
-- distances are taken modulo N
binary_of t Shl a b = Yields (a * 2 ^ (b % bits_of t) % 2 ^ bits_of t)
binary_of t ShrS a b = Yields (unsigned t (int_shr (signed t a) (b % bits_of t)))
binary_of t ShrU a b = Yields (a / 2 ^ (b % bits_of t))
binary_of t Rotl a b = Yields (rotate_left (width t) a b)
binary_of t Rotr a b = Yields (rotate_right (width t) a b)

-- the operation of a row on one operand; of other rows nothing is asked
abbrev pub unary_by : Row → ℕ → ℕ
unary_by (Takes1 t r op) a = unary_of t op a
unary_by _ a = 0

-- the operation of a row on two operands; of other rows nothing is asked
abbrev pub binary_by : Row → ℕ → ℕ → Numeric
binary_by (Takes2 t r op) a b = binary_of t op a b
binary_by _ a b = ByZero

-- the operation of this opcode on one operand
abbrev pub unary : ℕ → ℕ → ℕ
unary opcode a = unary_by (row_at opcode) a

-- the operation of this opcode on two operands
abbrev pub binary : ℕ → ℕ → ℕ → Numeric
binary opcode a b = binary_by (row_at opcode) a b
