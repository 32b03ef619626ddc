-- The one table of instructions (the standard, 5.4 and the index of instructions). Grammar, typing, steps and numbers read it.
use Rattle.std.specs.Prelude.{ℤ, ℕ, suc, Bool, true, false, ◌&&◌, ◌||◌, ◌==◌, nat_le, List, [], ◌∷◌, ◌++◌, Option}
use Rattle.wb_syntax.specs.Syntax.{NumType, I32, I64, Instr, Unreachable, Nop, Block, Loop, If, Else, End, Br, BrIf, Return, Call, Drop, Select, LocalGet, LocalSet, LocalTee, GlobalGet, GlobalSet, MemorySize, MemoryGrow, I32Const, I64Const}

-- operations with one operand (2.4.1); what they compute is in Numbers
pub data UnaryOp : Type 0 where
  Eqz : UnaryOp
  Clz : UnaryOp
  Ctz : UnaryOp
  Popcnt : UnaryOp
  Wrap : UnaryOp
  ExtendS : UnaryOp
  ExtendU : UnaryOp

-- operations with two operands (2.4.1)
pub data BinaryOp : Type 0 where
  Eq : BinaryOp
  Ne : BinaryOp
  LtS : BinaryOp
  LtU : BinaryOp
  GtS : BinaryOp
  GtU : BinaryOp
  LeS : BinaryOp
  LeU : BinaryOp
  GeS : BinaryOp
  GeU : BinaryOp
  Add : BinaryOp
  Sub : BinaryOp
  Mul : BinaryOp
  DivS : BinaryOp
  DivU : BinaryOp
  RemS : BinaryOp
  RemU : BinaryOp
  And : BinaryOp
  Or : BinaryOp
  Xor : BinaryOp
  Shl : BinaryOp
  ShrS : BinaryOp
  ShrU : BinaryOp
  Rotl : BinaryOp
  Rotr : BinaryOp

-- whether a narrow load copies the sign bit upward
pub data Extension : Type 0 where
  Signed : Extension
  Unsigned : Extension

-- what stands outside the profile, by name
pub data What : Type 0 where
  Import : What
  Table : What
  Start : What
  Element : What
  DataPart : What
  Floating : What

-- what an opcode stands for: what follows it, and for what keeps its opcode its types, width and meaning
pub data Row : Type 0 where
  -- the opcode is the whole instruction
  Alone : Instr → Row
  -- a block type follows
  WithResult : (Option NumType → Instr) → Row
  -- an index follows
  WithIndex : (ℕ → Instr) → Row
  -- br_table: a list of labels and one more follow
  WithLabels : Row
  -- the byte 00 follows
  WithZero : Instr → Row
  -- a signed number of so many bits follows
  Constant : (bits : ℕ) → (ℤ → Instr) → Row
  -- alignment and offset follow: from an i32 address, so many bytes of memory give a word of the type
  Loads : (gives : NumType) → (bytes : ℕ) → Extension → Row
  -- alignment and offset follow: the low bytes of a word of the type go to an i32 address
  Stores : (takes : NumType) → (bytes : ℕ) → Row
  -- one operand, its type and the result's
  Takes1 : (takes gives : NumType) → UnaryOp → Row
  -- two operands of one type, and the result's type
  Takes2 : (takes gives : NumType) → BinaryOp → Row
  -- outside the profile
  Foreign : What → Row
  NoInstruction : Row

-- rows with opcodes that rise by one
abbrev pub from : ℕ → List Row → List (ℕ × Row)
from opcode [] = []
from opcode (r ∷ rs) = (opcode, r) ∷ from (suc opcode) rs

-- 5.4.1 control, 5.4.2 parametric, 5.4.3 variable instructions
abbrev pub control_rows : List (ℕ × Row)
control_rows =
    (0x00, Alone Unreachable) ∷ (0x01, Alone Nop)
    ∷ (0x02, WithResult Block) ∷ (0x03, WithResult Loop) ∷ (0x04, WithResult If) ∷ (0x05, Alone Else) ∷ (0x0B, Alone End)
    ∷ (0x0C, WithIndex Br) ∷ (0x0D, WithIndex BrIf) ∷ (0x0E, WithLabels) ∷ (0x0F, Alone Return) ∷ (0x10, WithIndex Call)
    ∷ (0x11, Foreign Table)
    ∷ (0x1A, Alone Drop) ∷ (0x1B, Alone Select)
    ∷ (0x20, WithIndex LocalGet) ∷ (0x21, WithIndex LocalSet) ∷ (0x22, WithIndex LocalTee)
    ∷ (0x23, WithIndex GlobalGet) ∷ (0x24, WithIndex GlobalSet)
    ∷ []

-- 5.4.4 memory instructions
abbrev pub memory_rows : List (ℕ × Row)
memory_rows =
    (0x28, Loads I32 4 Unsigned) ∷ (0x29, Loads I64 8 Unsigned)
    ∷ (0x2C, Loads I32 1 Signed) ∷ (0x2D, Loads I32 1 Unsigned) ∷ (0x2E, Loads I32 2 Signed) ∷ (0x2F, Loads I32 2 Unsigned)
    ∷ (0x30, Loads I64 1 Signed) ∷ (0x31, Loads I64 1 Unsigned) ∷ (0x32, Loads I64 2 Signed) ∷ (0x33, Loads I64 2 Unsigned)
    ∷ (0x34, Loads I64 4 Signed) ∷ (0x35, Loads I64 4 Unsigned)
    ∷ (0x36, Stores I32 4) ∷ (0x37, Stores I64 8)
    ∷ (0x3A, Stores I32 1) ∷ (0x3B, Stores I32 2) ∷ (0x3C, Stores I64 1) ∷ (0x3D, Stores I64 2) ∷ (0x3E, Stores I64 4)
    ∷ (0x3F, WithZero MemorySize) ∷ (0x40, WithZero MemoryGrow)
    ∷ []

-- 5.4.5 numeric instructions: a test and ten comparisons of a type, which give an i32
abbrev pub comparisons : NumType → List Row
comparisons t =
    Takes1 t I32 Eqz ∷ Takes2 t I32 Eq ∷ Takes2 t I32 Ne
    ∷ Takes2 t I32 LtS ∷ Takes2 t I32 LtU ∷ Takes2 t I32 GtS ∷ Takes2 t I32 GtU
    ∷ Takes2 t I32 LeS ∷ Takes2 t I32 LeU ∷ Takes2 t I32 GeS ∷ Takes2 t I32 GeU
    ∷ []

-- three operations with one operand and fifteen with two
abbrev pub arithmetic : NumType → List Row
arithmetic t =
    Takes1 t t Clz ∷ Takes1 t t Ctz ∷ Takes1 t t Popcnt
    ∷ Takes2 t t Add ∷ Takes2 t t Sub ∷ Takes2 t t Mul
    ∷ Takes2 t t DivS ∷ Takes2 t t DivU ∷ Takes2 t t RemS ∷ Takes2 t t RemU
    ∷ Takes2 t t And ∷ Takes2 t t Or ∷ Takes2 t t Xor
    ∷ Takes2 t t Shl ∷ Takes2 t t ShrS ∷ Takes2 t t ShrU ∷ Takes2 t t Rotl ∷ Takes2 t t Rotr
    ∷ []

-- constants, then comparisons and arithmetic of each type, then conversions
abbrev pub numeric_rows : List (ℕ × Row)
numeric_rows =
    (0x41, Constant 32 I32Const) ∷ (0x42, Constant 64 I64Const)
    ∷ (from 0x45 (comparisons I32) ++ from 0x50 (comparisons I64) ++ from 0x67 (arithmetic I32) ++ from 0x79 (arithmetic I64)
    ++ (0xA7, Takes1 I64 I32 Wrap) ∷ (0xAC, Takes1 I32 I64 ExtendS) ∷ (0xAD, Takes1 I32 I64 ExtendU) ∷ [])

-- all instructions of the profile, and call_indirect, which is outside it
abbrev pub rows : List (ℕ × Row)
rows = control_rows ++ memory_rows ++ numeric_rows

-- a number is in this range, both ends counted
abbrev pub between : (least greatest n : ℕ) → Bool
between least greatest n = nat_le least n && nat_le n greatest

-- the opcodes of floating point
abbrev pub is_float : ℕ → Bool
is_float b =
    between 0x2A 0x2B b || between 0x38 0x39 b || between 0x43 0x44 b || between 0x5B 0x66 b
    || between 0x8B 0xA6 b || between 0xA8 0xAB b || between 0xAE 0xBF b

-- the row of this opcode among these, or else one that is outside the table
abbrev pub row_among : ℕ → List (ℕ × Row) → Row
row_among b [] = elim (is_float b) [ true ↦ Foreign Floating | false ↦ NoInstruction ]
row_among b (r ∷ rs) = elim (b == r.0) [ true ↦ r.1 | false ↦ row_among b rs ]

-- the row of an opcode
unfoldable pub row_at : ℕ → Row
row_at b = row_among b rows
