-- The table of instructions by what a reader does: which opcodes go together, and what follows them.
use Rattle.std.specs.Prelude.{ℕ, Bool, ◌==◌, ◌||◌, Option}
use Rattle.wb_syntax.specs.declared.syntax.NumType.{NumType}
use Rattle.wb_syntax.specs.declared.syntax.Instr.{Instr}
use Rattle.wb_syntax.specs.declared.syntax.Instr.TheVariants.{Nop, BrTable, Load, Store}
use Rattle.wb_syntax.specs.Table.{Row, WithResult, WithIndex, row_at, between}
use Rattle.wb_syntax.specs.Grammar.{Grammar, followed, mapped, index, vec}
use Rattle.wb_syntax.specs.Binary.{block_type, row_grammar}

-- what follows an opcode
abbrev pub after : ℕ → Grammar Instr
after opcode = row_grammar opcode (row_at opcode)

-- the instruction that a block type completes, where the row has one
abbrev pub with_result : Row → Option NumType → Instr
with_result (WithResult make) t = make t
with_result _ t = Nop

-- the instruction that an index completes, where the row has one
abbrev pub with_index : Row → ℕ → Instr
with_index (WithIndex make) n = make n
with_index _ n = Nop

-- a construct's opening, with its block type
abbrev pub opened : ℕ → Grammar Instr
opened opcode = mapped (with_result (row_at opcode)) block_type

-- an instruction with an index
abbrev pub indexed : ℕ → Grammar Instr
indexed opcode = mapped (with_index (row_at opcode)) index

-- br_table's labels
abbrev pub labels : Grammar Instr
labels = followed (vec index) (λ ls. mapped (λ l. BrTable ls l) index)

-- a load's alignment and offset
abbrev pub loaded : ℕ → Grammar Instr
loaded opcode = followed index (λ align. mapped (λ offset. Load opcode align offset) index)

-- a store's alignment and offset
abbrev pub stored : ℕ → Grammar Instr
stored opcode = followed index (λ align. mapped (λ offset. Store opcode align offset) index)

-- the opcodes of loads of integers
abbrev pub load_at : ℕ → Bool
load_at n = between 0x28 0x29 n || between 0x2C 0x35 n

-- the opcodes of stores of integers
abbrev pub store_at : ℕ → Bool
store_at n = between 0x36 0x37 n || between 0x3A 0x3E n

-- the opcodes of operations with one operand
abbrev pub unary_at : ℕ → Bool
unary_at n = n == 0x45 || n == 0x50 || between 0x67 0x69 n || between 0x79 0x7B n || n == 0xA7 || between 0xAC 0xAD n

-- the opcodes of operations with two operands
abbrev pub binary_at : ℕ → Bool
binary_at n = between 0x46 0x4F n || between 0x51 0x5A n || between 0x6A 0x78 n || between 0x7C 0x8A n
