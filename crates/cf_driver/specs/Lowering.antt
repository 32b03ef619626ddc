-- The object program of a sum, and its module.
use Rattle.std.specs.Prelude.{◌≡◌, List, [], ◌∷◌, ◌++◌, Bool, true, false, Option, Some, None, FitsSigned}
use Rattle.std.specs.Int.{w64}
use Rattle.cf_tree.specs.Tree.{Tree, Program}
use Rattle.cf_driver.specs.Sums.{Sum, Number, Plus, sum_in, IsMainAlone, IsSum}
use Rattle.cf_object.specs.Obj.{Obj, Lit, Prim, Add, Value, WholeT}
use Rattle.cf_object.specs.Program.{ObjDecl}
use Rattle.wb_syntax.specs.declared.syntax.NumType.TheVariants.{I64}
use Rattle.wb_syntax.specs.declared.syntax.Instr.{Instr}
use Rattle.wb_syntax.specs.declared.syntax.Instr.TheVariants.{I64Const, Binary, End}
use Rattle.wb_syntax.specs.declared.syntax.Func.{Func}
use Rattle.wb_syntax.specs.declared.syntax.Exported.TheVariants as exported
use Rattle.wb_syntax.specs.declared.syntax.Module.{Module}
use Rattle.wb_syntax.specs.Runs.{main_name}

-- a sum as a term of the object level
abbrev pub object_of : Sum → Obj
object_of (Number z) = Lit z
object_of (Plus a b) = Prim Add (object_of a) (object_of b)

-- `main : Int := s;`
abbrev pub program_of : Sum → List ObjDecl
program_of s = record { type = Value WholeT; body = object_of s } ∷ []

-- the instructions that leave the sum on the stack: i64.const, and i64.add, whose opcode is 7C
abbrev pub instructions : Sum → List Instr
instructions (Number z) = I64Const z ∷ []
instructions (Plus a b) = instructions a ++ (instructions b ++ Binary 0x7C ∷ [])

-- a function of type () -> i64
abbrev pub func_with : List Instr → Func
func_with body = record { ty = 0; locals = []; body = body }

-- the module with this function, exported as `main`
abbrev pub module_with : List Instr → Module
module_with body = record {
  types = record { params = []; result = Some I64 } ∷ [];
  funcs = func_with body ∷ [];
  memories = [];
  globals = [];
  exports = record { name = main_name; what = exported.Func 0 } ∷ [];
}

-- the function of a sum
abbrev pub func_of : Sum → Func
func_of s = func_with (instructions s ++ End ∷ [])

-- the module of a sum
abbrev pub module_of : Sum → Module
module_of s = module_with (instructions s ++ End ∷ [])

-- each number has 64 bits
abbrev pub AllFit : Sum → Type 0
AllFit (Number z) = FitsSigned w64 z
AllFit (Plus a b) = AllFit a × AllFit b

-- the term is a sum, and its instructions stand behind those before
pub record AddsCode (t : Tree) (before after : List Instr) : Type 0 where
  pub sum : Sum
  pub is_sum : sum_in t ≡ Some sum
  pub code : after ≡ before ++ instructions sum
  pub fit : AllFit sum

-- whether the term is a sum; where it is, its instructions are added
abbrev pub AddsSum : Tree → (before after : List Instr) → Bool → Type 0
AddsSum t before after true = AddsCode t before after
AddsSum t before after false = sum_in t ≡ None

-- the program is a sum, and this is its module
pub record IsLowered (p : Program) (m : Module) : Type 0 where
  pub sum : Sum
  pub is_sum : IsSum p sum
  pub same : m ≡ module_of sum
  pub fit : AllFit sum

-- the module of a program, where this is a sum
abbrev pub Lowers : Program → Option Module → Type 0
Lowers p (Some m) = IsLowered p m
Lowers p None = (s : Sum) → IsSum p s → ⊥

-- the body of `main`, where the program is that alone
abbrev pub FindsMain : Program → Option Tree → Type 0
FindsMain p (Some t) = IsMainAlone p t
FindsMain p None = (t : Tree) → IsMainAlone p t → ⊥
