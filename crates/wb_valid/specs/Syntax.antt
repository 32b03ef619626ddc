-- The structure of modules, under the names that the definitions of wb_syntax have for it.
pub use Rattle.wb_syntax.specs.declared.syntax.NumType.{NumType}
pub use Rattle.wb_syntax.specs.declared.syntax.NumType.TheVariants.{I32, I64}
pub use Rattle.wb_syntax.specs.declared.syntax.Instr.{Instr}
pub use Rattle.wb_syntax.specs.declared.syntax.Instr.TheVariants.{Unreachable, Nop, Block, Loop, If, Else, End, Br, BrIf, BrTable, Return, Call, Drop, Select, LocalGet, LocalSet, LocalTee, GlobalGet, GlobalSet, Load, Store, MemorySize, MemoryGrow, I32Const, I64Const, Unary, Binary}
pub use Rattle.wb_syntax.specs.declared.syntax.FuncType.{FuncType}
pub use Rattle.wb_syntax.specs.declared.syntax.LocalRun.{LocalRun}
pub use Rattle.wb_syntax.specs.declared.syntax.Func.{Func}
pub use Rattle.wb_syntax.specs.declared.syntax.Limits.{Limits}
pub use Rattle.wb_syntax.specs.declared.syntax.Global.{Global}
pub use Rattle.wb_syntax.specs.declared.syntax.Exported.{Exported}
pub use Rattle.wb_syntax.specs.declared.syntax.Exported.TheVariants.{Func as AFunc, Memory as AMemory, Global as AGlobal}
pub use Rattle.wb_syntax.specs.declared.syntax.Export.{Export}
pub use Rattle.wb_syntax.specs.declared.syntax.Module.{Module}
pub use Rattle.wb_syntax.specs.Syntax.{Nested, Plain, InBlock, InLoop, InIf, InIfElse, Code, Nothing, Then, list_of, expanded}
