-- The structure of modules as wb_syntax declares it, under the names of its definitions.
pub use Rattle.wb_syntax.specs.declared.syntax.NumType.{NumType}
pub use Rattle.wb_syntax.specs.declared.syntax.NumType.TheVariants.{I32, I64}
pub use Rattle.wb_syntax.specs.declared.syntax.Instr.{Instr}
pub use Rattle.wb_syntax.specs.declared.syntax.Instr.TheVariants.{Unreachable, Nop, Block, Loop, If, Else, End, Br, BrIf, BrTable, Return, Call, Drop, Select, LocalGet, LocalSet, LocalTee, GlobalGet, GlobalSet, Load, Store, MemorySize, MemoryGrow, I32Const, I64Const, Unary, Binary}
pub use Rattle.wb_syntax.specs.declared.syntax.Module.{Module}
