-- The table of instructions by its rows, and when integer operations trap (the standard, 4.3.2, 5.4).
use Rattle.std.specs.Prelude.{◌≡◌, ◌≢◌, ◌⊎◌, ℕ, ◌-◌, ◌/◌, ◌%◌, ◌^◌, Some, slice_get, int_div, int_rem}
use Rattle.wb_syntax.specs.declared.syntax.NumType.{NumType}
use Rattle.wb_syntax.specs.Table.{DivS, DivU, RemS, RemU, Row, rows, row_at}
use Rattle.wb_syntax.specs.Numbers.{Yields, ByZero, TooLarge, bits_of, signed, unsigned, binary_of}

-- each row of the table is that of its opcode, so that no opcode has two
abbrev pub RowsAreFound : Type 0
RowsAreFound = (i opcode : ℕ) (r : Row) → slice_get rows i ≡ Some (opcode, r) → row_at opcode ≡ r

-- the four divisions trap where the divisor is 0
abbrev pub DivisionsByZero : Type 0
DivisionsByZero = (t : NumType) (x : ℕ) →
    (binary_of t DivS x 0 ≡ ByZero) × (binary_of t DivU x 0 ≡ ByZero) × (binary_of t RemS x 0 ≡ ByZero) × (binary_of t RemU x 0 ≡ ByZero)

-- the quotient of the least number by -1 has no word
abbrev pub QuotientTooLarge : Type 0
QuotientTooLarge = (t : NumType) → binary_of t DivS (2 ^ (bits_of t - 1)) (2 ^ bits_of t - 1) ≡ TooLarge

-- every other quotient is yielded
abbrev pub QuotientYields : Type 0
QuotientYields = (t : NumType) (x y : ℕ) → y ≢ 0 → ((x ≢ 2 ^ (bits_of t - 1)) ⊎ (y ≢ 2 ^ bits_of t - 1)) →
    binary_of t DivS x y ≡ Yields (unsigned t (int_div (signed t x) (signed t y)))

-- and every quotient without signs, and every remainder
abbrev pub DivisionsYield : Type 0
DivisionsYield = (t : NumType) (x y : ℕ) → y ≢ 0 →
    (binary_of t DivU x y ≡ Yields (x / y)) × (binary_of t RemU x y ≡ Yields (x % y)) × (binary_of t RemS x y ≡ Yields (unsigned t (int_rem (signed t x) (signed t y))))
