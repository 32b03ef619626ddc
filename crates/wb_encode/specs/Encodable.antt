-- Which modules have bytes.
use Rattle.std.specs.Prelude.{ℕ, ◌+◌, ◌<◌, ◌^◌, List, [], ◌∷◌, Bool, true, false, IsTrue, map}
use Rattle.wb_syntax.specs.declared.syntax.Instr.{Instr}
use Rattle.wb_syntax.specs.declared.syntax.Instr.TheVariants.{Load, Store, Unary, Binary}
use Rattle.wb_syntax.specs.declared.syntax.LocalRun.{LocalRun}
use Rattle.wb_syntax.specs.declared.syntax.Func.{Func}
use Rattle.wb_syntax.specs.declared.syntax.Global.{Global}
use Rattle.wb_syntax.specs.declared.syntax.Module.{Module}
use Rattle.wb_syntax.specs.Table.{Row, Loads, Stores, Takes1, Takes2, row_at}
use Rattle.wb_syntax.specs.Grammar.{Splits, index}
use Rattle.wb_syntax.specs.Binary.{value_type, code}
use Rattle.wb_syntax.specs.Nesting.{IsWellNested}
use Rattle.wb_encode.specs.Appended.{Every}

-- a row of a load: its instructions keep their opcode
abbrev pub loads : Row → Bool
loads (Loads t n e) = true
loads _ = false

-- a row of a store
abbrev pub stores : Row → Bool
stores (Stores t n) = true
stores _ = false

-- a row of an operation with one operand
abbrev pub takes_one : Row → Bool
takes_one (Takes1 t r op) = true
takes_one _ = false

-- a row of an operation with two operands
abbrev pub takes_two : Row → Bool
takes_two (Takes2 t r op) = true
takes_two _ = false

-- an instruction of the table: one that keeps its opcode has a row of its kind
abbrev pub IsOfTable : Instr → Type 0
IsOfTable (Load opcode align offset) = IsTrue (loads (row_at opcode))
IsOfTable (Store opcode align offset) = IsTrue (stores (row_at opcode))
IsOfTable (Unary opcode) = IsTrue (takes_one (row_at opcode))
IsOfTable (Binary opcode) = IsTrue (takes_two (row_at opcode))
IsOfTable _ = Unit {0}

-- the number of locals in these runs
abbrev pub count_locals : List LocalRun → ℕ
count_locals [] = 0
count_locals (r ∷ rs) = r.count + count_locals rs

-- each construct of each body is closed
abbrev pub AreBodiesWellNested : Module → Type 0
AreBodiesWellNested m = Every (λ (f : Func). IsWellNested f.body) m.funcs

-- the same of the initial values of globals
abbrev pub AreInitialValuesWellNested : Module → Type 0
AreInitialValuesWellNested m = Every (λ (g : Global). IsWellNested g.init) m.globals

-- all instructions are of the table
abbrev pub AreOfTable : Module → Type 0
AreOfTable m = Every (λ (f : Func). Every IsOfTable f.body) m.funcs × Every (λ (g : Global). Every IsOfTable g.init) m.globals

-- each body has fewer than 2 ^ 32 locals, parameters not counted
abbrev pub AreLocalsFew : Module → Type 0
AreLocalsFew m = Every (λ (f : Func). count_locals f.locals < 2 ^ 32) m.funcs

-- ---- of the parts

-- nothing is asked
abbrev pub Anything : {A : Type 0} → A → Type 0
Anything x = Unit {0}

-- a body, or the initial value of a global
abbrev pub IsExpression : List Instr → Type 0
IsExpression is = IsWellNested is × Every IsOfTable is

-- an entry of the code section
abbrev pub IsCode : Func → Type 0
IsCode f = IsExpression f.body × (count_locals f.locals < 2 ^ 32)

-- a global
abbrev pub IsInitialized : Global → Type 0
IsInitialized g = IsExpression g.init

-- a run of locals (5.5.13): how many, and their type
abbrev pub SpellsRun : LocalRun → List ℕ → Type 0
SpellsRun r bytes = Splits bytes (index.Is r.count) (value_type.Is r.ty)

-- the entry of a function in the code section
abbrev pub SpellsCode : Func → List ℕ → Type 0
SpellsCode f bytes = code.Is (f.locals, f.body) bytes

-- the numbers of the functions' types
abbrev pub types_of : List Func → List ℕ
types_of fs = map (λ f. f.ty) fs
