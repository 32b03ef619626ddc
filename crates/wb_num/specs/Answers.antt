-- Which operations there are, with which operands, and what is answered.
use Rattle.std.specs.Prelude.{◌≡◌, ℕ, ◌^◌, ◌<◌, Bool, true, false, IsTrue, Result, Ok, Err}
use Rattle.wb_syntax.specs.Table.{Row, Takes1, Takes2, row_at}
use Rattle.wb_syntax.specs.Numbers.{Numeric, Yields, ByZero, TooLarge, bits_of, binary}
use Rattle.wb_num.specs.declared.trap.NumTrap.{NumTrap}
use Rattle.wb_num.specs.declared.trap.NumTrap.TheVariants.{DivideByZero, Overflow}

-- the row is of an operation with one operand
abbrev pub takes_one : Row → Bool
takes_one (Takes1 t r op) = true
takes_one _ = false

-- the row is of an operation with two operands
abbrev pub takes_two : Row → Bool
takes_two (Takes2 t r op) = true
takes_two _ = false

-- the bits of an operand
abbrev pub operand_bits : Row → ℕ
operand_bits (Takes1 t r op) = bits_of t
operand_bits (Takes2 t r op) = bits_of t
operand_bits _ = 64

-- the bits of a result
abbrev pub result_bits : Row → ℕ
result_bits (Takes1 t r op) = bits_of r
result_bits (Takes2 t r op) = bits_of r
result_bits _ = 64

-- an operation of the profile with one operand
abbrev pub IsUnaryOperation : ℕ → Type 0
IsUnaryOperation opcode = IsTrue (takes_one (row_at opcode))

-- an operation of the profile with two operands
abbrev pub IsBinaryOperation : ℕ → Type 0
IsBinaryOperation opcode = IsTrue (takes_two (row_at opcode))

-- a word of the type that the operation takes
abbrev pub IsOperand : ℕ → ℕ → Type 0
IsOperand opcode n = n < 2 ^ operand_bits (row_at opcode)

-- a word of the type that the operation gives
abbrev pub IsResult : ℕ → ℕ → Type 0
IsResult opcode n = n < 2 ^ result_bits (row_at opcode)

-- the number, or the trap
abbrev pub number_or_trap : Result ℕ NumTrap → Numeric
number_or_trap (Ok n) = Yields n
number_or_trap (Err DivideByZero) = ByZero
number_or_trap (Err Overflow) = TooLarge

-- the answer of an operation with two operands
abbrev pub AnswersNumber : ℕ → ℕ → ℕ → Result ℕ NumTrap → Type 0
AnswersNumber opcode a b result = binary opcode a b ≡ number_or_trap result
