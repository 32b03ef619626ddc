-- The structure of modules of the integer profile (the standard, section 2): the types of src/syntax.rt, and nested code.
use Rattle.std.specs.Prelude.{List, [], ◌∷◌, ◌++◌, replicate, Option, Some, None}
-- value types (2.3.1), those of integers
pub use Rattle.wb_syntax.specs.declared.syntax.NumType.{NumType}
pub use Rattle.wb_syntax.specs.declared.syntax.NumType.TheVariants.{I32, I64}
-- instructions as a body lists them (2.4, 5.4): a construct is opened by block, loop or if, and closed by its end
pub use Rattle.wb_syntax.specs.declared.syntax.Instr.{Instr}
pub use Rattle.wb_syntax.specs.declared.syntax.Instr.TheVariants.{Unreachable, Nop, Block, Loop, If, Else, End, Br, BrIf, BrTable, Return, Call, Drop, Select, LocalGet, LocalSet, LocalTee, GlobalGet, GlobalSet, Load, Store, MemorySize, MemoryGrow, I32Const, I64Const, Unary, Binary}
-- function types (2.3.3), functions (2.5.3), limits of memories (2.3.4, 2.5.5), globals (2.5.6), exports (2.5.10), modules (2.5)
pub use Rattle.wb_syntax.specs.declared.syntax.FuncType.{FuncType}
pub use Rattle.wb_syntax.specs.declared.syntax.LocalRun.{LocalRun}
pub use Rattle.wb_syntax.specs.declared.syntax.Func.{Func}
pub use Rattle.wb_syntax.specs.declared.syntax.Limits.{Limits}
pub use Rattle.wb_syntax.specs.declared.syntax.Global.{Global}
pub use Rattle.wb_syntax.specs.declared.syntax.Exported.{Exported}
pub use Rattle.wb_syntax.specs.declared.syntax.Exported.TheVariants.{Func as AFunc, Memory as AMemory, Global as AGlobal}
pub use Rattle.wb_syntax.specs.declared.syntax.Export.{Export}
pub use Rattle.wb_syntax.specs.declared.syntax.Module.{Module}

-- Nested instructions, as section 2.4.5 writes them: rules of typing and of execution speak of these.
mutual
  -- one instruction, or a construct with the type of its result and what it holds
  pub data Nested : Type 0 where
    -- neither block, loop, if, else nor end
    Plain : Instr → Nested
    InBlock : Option NumType → Code → Nested
    InLoop : Option NumType → Code → Nested
    -- an if without else, and one with it
    InIf : Option NumType → Code → Nested
    InIfElse : Option NumType → Code → Code → Nested

  -- a sequence of instructions and constructs
  pub data Code : Type 0 where
    Nothing : Code
    Then : Nested → Code → Code

-- a result type (2.3.2) as a list
abbrev pub list_of : {A : Type 0} → Option A → List A
list_of None = []
list_of (Some t) = t ∷ []

-- the locals of a function without its parameters, one by one
abbrev pub expanded : List LocalRun → List NumType
expanded [] = []
expanded (r ∷ rs) = replicate r.count r.ty ++ expanded rs
