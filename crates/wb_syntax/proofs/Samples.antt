-- Small modules, some also as bytes, that the worked examples speak of.
use Rattle.std.specs.Prelude.{pos, ℕ, true, List, [], ◌∷◌, ◌++◌, Some, None}
use Rattle.wb_syntax.specs.Syntax.{NumType, I64, Instr, Unreachable, Block, Loop, If, Else, End, Br, BrIf, BrTable, Call, Drop, LocalGet, LocalSet, GlobalSet, I32Const, I64Const, Unary, Binary, LocalRun, Module, AFunc}
use Rattle.wb_syntax.specs.Binary.{header}
use Rattle.wb_syntax.specs.Runs.{main_name}

-- one type () -> i64, one function of it, exported as main: 29 bytes
abbrev pub front : List ℕ
front = header ++ (0x01 ∷ 0x05 ∷ 0x01 ∷ 0x60 ∷ 0x00 ∷ 0x01 ∷ 0x7E ∷ 0x03 ∷ 0x02 ∷ 0x01 ∷ 0x00 ∷ 0x07 ∷ 0x08 ∷ 0x01 ∷ 0x04 ∷ (main_name ++ 0x00 ∷ 0x00 ∷ []))

-- a function with these parameters, locals and body, from i64 alone to an i64, exported as main
abbrev pub main_from : List NumType → List LocalRun → List Instr → Module
main_from params locals body = record {
  types = record { params = params; result = Some I64 } ∷ [];
  funcs = record { ty = 0; locals = locals; body = body } ∷ [];
  memories = [];
  globals = [];
  exports = record { name = main_name; what = AFunc 0 } ∷ [];
}

-- the same without parameters and locals
abbrev pub main_with : List Instr → Module
main_with body = main_from [] [] body

-- i64.const 7
abbrev pub seven : Module
seven = main_with (I64Const (pos 7) ∷ End ∷ [])

-- the shortest spelling of it
abbrev pub seven_bytes : List ℕ
seven_bytes = front ++ 0x0A ∷ 0x06 ∷ 0x01 ∷ 0x04 ∷ 0x00 ∷ 0x42 ∷ 0x07 ∷ 0x0B ∷ []

-- the same with padded numbers and a custom section
abbrev pub padded_bytes : List ℕ
padded_bytes = front ++ 0x0A ∷ 0x8A ∷ 0x80 ∷ 0x80 ∷ 0x80 ∷ 0x00 ∷ 0x01 ∷ 0x08 ∷ 0x00 ∷ 0x42 ∷ 0x87 ∷ 0x80 ∷ 0x80 ∷ 0x80 ∷ 0x00 ∷ 0x0B ∷ 0x00 ∷ 0x02 ∷ 0x01 ∷ 0x78 ∷ []

-- a constant of eleven bytes
abbrev pub too_long_bytes : List ℕ
too_long_bytes = front ++ 0x0A ∷ 0x10 ∷ 0x01 ∷ 0x0E ∷ 0x00 ∷ 0x42 ∷ 0x87 ∷ 0x80 ∷ 0x80 ∷ 0x80 ∷ 0x80 ∷ 0x80 ∷ 0x80 ∷ 0x80 ∷ 0x80 ∷ 0x80 ∷ 0x00 ∷ 0x0B ∷ []

-- a float instruction
abbrev pub float_bytes : List ℕ
float_bytes = front ++ 0x0A ∷ 0x05 ∷ 0x01 ∷ 0x03 ∷ 0x00 ∷ 0xA0 ∷ 0x0B ∷ []

-- unreachable, then i32.const 0 where an i64 is wanted
abbrev pub invalid : Module
invalid = main_with (Unreachable ∷ I32Const (pos 0) ∷ End ∷ [])

-- a loop that branches to itself
abbrev pub endless : Module
endless = main_with (Loop None ∷ Br 0 ∷ End ∷ I64Const (pos 7) ∷ End ∷ [])

-- a loop that adds up the numbers from its argument down to 1: eqz leaves it, add and sub turn it
abbrev pub counted_loop : Module
counted_loop = main_from (I64 ∷ []) (record { count = 1; ty = I64 } ∷ []) (
    Block None ∷ Loop None
    ∷ LocalGet 0 ∷ Unary 0x50 ∷ BrIf 1
    ∷ LocalGet 1 ∷ LocalGet 0 ∷ Binary 0x7C ∷ LocalSet 1
    ∷ LocalGet 0 ∷ I64Const (pos 1) ∷ Binary 0x7D ∷ LocalSet 0
    ∷ Br 0 ∷ End ∷ End ∷ LocalGet 1 ∷ End ∷ []
    )

-- a factorial by calls: 1 below 2, and else n times that of n - 1
abbrev pub factorial : Module
factorial = main_from (I64 ∷ []) [] (
    LocalGet 0 ∷ I64Const (pos 2) ∷ Binary 0x53 ∷ If (Some I64)
    ∷ I64Const (pos 1) ∷ Else
    ∷ LocalGet 0 ∷ LocalGet 0 ∷ I64Const (pos 1) ∷ Binary 0x7D ∷ Call 0 ∷ Binary 0x7E
    ∷ End ∷ End ∷ []
    )

-- a br_table that carries 10, by the argument as an i32: 1 leaves both blocks, all else the inner one, which adds 1
abbrev pub table_of_labels : Module
table_of_labels = main_from (I64 ∷ []) [] (
    Block (Some I64) ∷ Block (Some I64)
    ∷ I64Const (pos 10) ∷ LocalGet 0 ∷ Unary 0xA7 ∷ BrTable (0 ∷ 1 ∷ []) 0 ∷ End
    ∷ I64Const (pos 1) ∷ Binary 0x7C ∷ End
    ∷ I64Const (pos 100) ∷ Binary 0x7E ∷ End ∷ []
    )

-- 1 divided by the argument, in a block
abbrev pub dividing : Module
dividing = main_from (I64 ∷ []) [] (Block (Some I64) ∷ I64Const (pos 1) ∷ LocalGet 0 ∷ Binary 0x7F ∷ End ∷ End ∷ [])

-- a global, 5 at first, is set to 7, and this follows
abbrev pub setting : List Instr → Module
setting rest = record (main_with (I64Const (pos 7) ∷ GlobalSet 0 ∷ rest)) {
  globals = record { ty = I64; mutable = true; init = I64Const (pos 5) ∷ End ∷ [] } ∷ [];
}

-- two constants follow, one of which is dropped
abbrev pub set_and_put : Module
set_and_put = setting (I64Const (pos 1) ∷ I64Const (pos 2) ∷ Drop ∷ End ∷ [])

-- a word is dropped that is not there
abbrev pub set_and_stuck : Module
set_and_stuck = setting (Drop ∷ End ∷ [])
