-- The structure of modules as wb_syntax declares it, under the names of its definitions.
pub use Rattle.wb_syntax.specs.declared.syntax.NumType.{NumType}
pub use Rattle.wb_syntax.specs.declared.syntax.Instr.{Instr}
pub use Rattle.wb_syntax.specs.declared.syntax.Instr.TheVariants.{Block, Loop, If, Else, End}
pub use Rattle.wb_syntax.specs.Syntax.{Nested, Plain, InBlock, InLoop, InIf, InIfElse, Code, Nothing, Then}
