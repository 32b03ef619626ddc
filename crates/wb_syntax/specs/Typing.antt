-- Validity (the standard, section 3): which code has which type, and which modules are valid.
use Rattle.std.specs.Prelude.{ℤ, ◌≡◌, ◌≢◌, ℕ, ◌<◌, ◌≤◌, ◌^◌, Bool, true, false, ◌⊎◌, List, [], ◌∷◌, ◌++◌, length, map, reverse, Option, Some, None, slice_get, IfSome}
use Rattle.wb_syntax.specs.Syntax.{NumType, I32, I64, Instr, Unreachable, Nop, End, Br, BrIf, BrTable, Return, Call, Drop, Select, LocalGet, LocalSet, LocalTee, GlobalGet, GlobalSet, Load, Store, MemorySize, MemoryGrow, I32Const, I64Const, Unary, Binary, Nested, Plain, InBlock, InLoop, InIf, InIfElse, Code, Nothing, Then, FuncType, Func, Limits, Global, Exported, AFunc, AMemory, AGlobal, Export, Module, list_of, expanded}
use Rattle.wb_syntax.specs.Table.{Row, Loads, Stores, Takes1, Takes2, row_at}
use Rattle.wb_syntax.specs.Nesting.{flat}

-- contexts (3.1.1)
pub record Context : Type 0 where
  pub types : List FuncType
  -- the number of each function's type
  pub funcs : List ℕ
  pub has_memory : Bool
  pub globals : List Global
  pub locals : List NumType
  -- what a branch to each label carries, the innermost first; the body of the function is the last
  pub labels : List (Option NumType)
  pub result : Option NumType

-- Stacks are written with the top first.
-- An instruction that takes and gives so much leaves what is below, as it may stand in any sequence (3.3.6).
abbrev pub Takes : (takes gives before after : List NumType) → Type 0
Takes takes gives before after = (below : List NumType) × (before ≡ takes ++ below) × (after ≡ gives ++ below)

-- a jump takes so much; what it leaves may be anything, since the code behind it is never reached
abbrev pub Jumps : (takes before : List NumType) → Type 0
Jumps takes before = (below : List NumType) × (before ≡ takes ++ below)

-- these labels are there, and a branch to each carries this
abbrev pub AreLabels : Context → Option NumType → List ℕ → Type 0
AreLabels c t [] = Unit {0}
AreLabels c t (l ∷ ls) = (slice_get c.labels l ≡ Some t) × AreLabels c t ls

-- memory instructions (3.3.4): there is a memory, and the alignment is no greater than the access
abbrev pub IsAccess : Context → (align bytes : ℕ) → Type 0
IsAccess c align bytes = (c.has_memory ≡ true) × (2 ^ align ≤ bytes)

-- a load: from an address to a word of the type of its row
abbrev pub IsLoad : Context → Row → (align : ℕ) → (before after : List NumType) → Type 0
IsLoad c (Loads t bytes e) align before after = IsAccess c align bytes × Takes (I32 ∷ []) (t ∷ []) before after
IsLoad c _ align before after = ⊥

-- a store: takes a word of the type of its row, and an address below it
abbrev pub IsStore : Context → Row → (align : ℕ) → (before after : List NumType) → Type 0
IsStore c (Stores t bytes) align before after = IsAccess c align bytes × Takes (t ∷ I32 ∷ []) [] before after
IsStore c _ align before after = ⊥

-- numeric instructions (3.3.1), by the table: an operation with one operand
abbrev pub IsUnary : Row → (before after : List NumType) → Type 0
IsUnary (Takes1 t r op) before after = Takes (t ∷ []) (r ∷ []) before after
IsUnary _ before after = ⊥

-- an operation with two operands of one type
abbrev pub IsBinary : Row → (before after : List NumType) → Type 0
IsBinary (Takes2 t r op) before after = Takes (t ∷ t ∷ []) (r ∷ []) before after
IsBinary _ before after = ⊥

-- an instruction that is no construct takes a stack of types to another
abbrev pub IsPlain : Context → Instr → (before after : List NumType) → Type 0
-- 3.3.1 numeric
IsPlain c (I32Const z) a b = Takes [] (I32 ∷ []) a b
IsPlain c (I64Const z) a b = Takes [] (I64 ∷ []) a b
IsPlain c (Unary op) a b = IsUnary (row_at op) a b
IsPlain c (Binary op) a b = IsBinary (row_at op) a b
-- 3.3.2 parametric
IsPlain c Drop a b = (t : NumType) × Takes (t ∷ []) [] a b
IsPlain c Select a b = (t : NumType) × Takes (I32 ∷ t ∷ t ∷ []) (t ∷ []) a b
-- 3.3.3 variables
IsPlain c (LocalGet x) a b = (t : NumType) × (slice_get c.locals x ≡ Some t) × Takes [] (t ∷ []) a b
IsPlain c (LocalSet x) a b = (t : NumType) × (slice_get c.locals x ≡ Some t) × Takes (t ∷ []) [] a b
IsPlain c (LocalTee x) a b = (t : NumType) × (slice_get c.locals x ≡ Some t) × Takes (t ∷ []) (t ∷ []) a b
IsPlain c (GlobalGet x) a b = (g : Global) × (slice_get c.globals x ≡ Some g) × Takes [] (g.ty ∷ []) a b
IsPlain c (GlobalSet x) a b = (g : Global) × (slice_get c.globals x ≡ Some g) × (g.mutable ≡ true) × Takes (g.ty ∷ []) [] a b
-- 3.3.4 memory
IsPlain c (Load op align offset) a b = IsLoad c (row_at op) align a b
IsPlain c (Store op align offset) a b = IsStore c (row_at op) align a b
IsPlain c MemorySize a b = (c.has_memory ≡ true) × Takes [] (I32 ∷ []) a b
IsPlain c MemoryGrow a b = (c.has_memory ≡ true) × Takes (I32 ∷ []) (I32 ∷ []) a b
-- 3.3.5 control; all labels of a br_table carry the same
IsPlain c Nop a b = a ≡ b
IsPlain c Unreachable a b = Unit {0}
IsPlain c (Br l) a b = (t : Option NumType) × AreLabels c t (l ∷ []) × Jumps (list_of t) a
IsPlain c (BrIf l) a b = (t : Option NumType) × AreLabels c t (l ∷ []) × Takes (I32 ∷ list_of t) (list_of t) a b
IsPlain c (BrTable ls l) a b = (t : Option NumType) × AreLabels c t (l ∷ ls) × Jumps (I32 ∷ list_of t) a
IsPlain c Return a b = Jumps (list_of c.result) a
IsPlain c (Call f) a b = (i : ℕ) × (ft : FuncType) × (slice_get c.funcs f ≡ Some i) × (slice_get c.types i ≡ Some ft) × Takes (reverse ft.params) (list_of ft.result) a b
-- block, loop, if, else and end stand in nested code as its own forms
IsPlain c _ a b = ⊥

-- a context inside a construct, whose label carries this
abbrev pub inside : Context → Option NumType → Context
inside c t = record c { labels = t ∷ c.labels }

-- nested code takes a stack of types to another (3.3.6): constructs (3.3.5) begin on an empty stack and leave their result
abbrev mutual
  pub Types : Context → Code → (before after : List NumType) → Type 0
  Types c Nothing a b = a ≡ b
  Types c (Then i is) a b = (m : List NumType) × TypesOne c i a m × Types c is m b

  pub TypesOne : Context → Nested → (before after : List NumType) → Type 0
  TypesOne c (Plain i) a b = IsPlain c i a b
  TypesOne c (InBlock t is) a b = Types (inside c t) is [] (list_of t) × Takes [] (list_of t) a b
  -- a branch to a loop goes to its beginning and carries nothing
  TypesOne c (InLoop t is) a b = Types (inside c None) is [] (list_of t) × Takes [] (list_of t) a b
  -- without an else there is no result
  TypesOne c (InIf t is) a b = (t ≡ None) × Types (inside c None) is [] [] × Takes (I32 ∷ []) [] a b
  TypesOne c (InIfElse t is js) a b = Types (inside c t) is [] (list_of t) × Types (inside c t) js [] (list_of t) × Takes (I32 ∷ []) (list_of t) a b

-- ---- modules (3.4)

-- a list has an element
abbrev pub is_there : {A : Type 0} → List A → Bool
is_there [] = false
is_there (x ∷ xs) = true

-- the context of a function's body: its locals, and one label, which carries its result
abbrev pub context_of : Module → Func → FuncType → Context
context_of m f ft = record {
  types = m.types;
  funcs = map (λ (g : Func). g.ty) m.funcs;
  has_memory = is_there m.memories;
  globals = m.globals;
  locals = ft.params ++ expanded f.locals;
  labels = ft.result ∷ [];
  result = ft.result;
}

-- functions (3.4.1): the body, up to its end, leaves the result
pub record IsTypedBody (m : Module) (f : Func) : Type 0 where
  pub type : FuncType
  pub code : Code
  pub named : slice_get m.types f.ty ≡ Some type
  pub nests : f.body ≡ flat code ++ End ∷ []
  pub typed : Types (context_of m f type) code [] (list_of type.result)

-- the greatest size, where one is given, is no less than the least, and at most 2 ^ 16 pages
abbrev pub IsGreatest : ℕ → Option ℕ → Type 0
IsGreatest least None = Unit {0}
IsGreatest least (Some greatest) = (least ≤ greatest) × (greatest ≤ 2 ^ 16)

-- the sizes of a memory (3.2.1, 3.2.4) are at most 2 ^ 16 pages, and in order
abbrev pub AreLimits : Limits → Type 0
AreLimits l = (l.min ≤ 2 ^ 16) × IsGreatest l.min l.max

-- constant expressions (3.3.7): one constant of the type, since without imports no global may be read
abbrev pub IsConstant : NumType → List Instr → Type 0
IsConstant I32 init = (z : ℤ) × (init ≡ I32Const z ∷ End ∷ [])
IsConstant I64 init = (z : ℤ) × (init ≡ I64Const z ∷ End ∷ [])

-- exports (3.4.8): what is exported is there
abbrev pub IsThere : Module → Exported → Type 0
IsThere m (AFunc f) = f < length m.funcs
IsThere m (AMemory x) = x < length m.memories
IsThere m (AGlobal g) = g < length m.globals

-- no earlier export has this name
abbrev pub IsNewName : Module → ℕ → List ℕ → Type 0
IsNewName m e name = (d : ℕ) → d < e → IfSome (slice_get m.exports d) (λ (x : Export). x.name ≢ name)

-- the parts of a module that validity speaks of, in their order: types of functions, memories, globals, exports, bodies
pub data Part : Type 0 where
  FuncTypeOf : (func : ℕ) → Part
  Memories : Part
  MemoryLimits : Part
  GlobalInit : (global : ℕ) → Part
  ExportOf : (export : ℕ) → Part
  Body : (func : ℕ) → Part

-- a part is valid; one that is not there is
abbrev pub IsValid : Module → Part → Type 0
IsValid m (FuncTypeOf f) = IfSome (slice_get m.funcs f) (λ (x : Func). x.ty < length m.types)
IsValid m Memories = length m.memories ≤ 1
IsValid m MemoryLimits = (i : ℕ) → IfSome (slice_get m.memories i) AreLimits
IsValid m (GlobalInit g) = IfSome (slice_get m.globals g) (λ (x : Global). IsConstant x.ty x.init)
IsValid m (ExportOf e) = IfSome (slice_get m.exports e) (λ (x : Export). IsThere m x.what × IsNewName m e x.name)
IsValid m (Body f) = IfSome (slice_get m.funcs f) (IsTypedBody m)

-- a module is valid (3.4.10): each of its parts is
abbrev pub Valid : Module → Type 0
Valid m = (p : Part) → IsValid m p

-- the place of a part's kind in the order
abbrev pub kind : Part → ℕ
kind (FuncTypeOf f) = 0
kind Memories = 1
kind MemoryLimits = 2
kind (GlobalInit g) = 3
kind (ExportOf e) = 4
kind (Body f) = 5

-- the place of a part among those of its kind
abbrev pub number : Part → ℕ
number (FuncTypeOf f) = f
number Memories = 0
number MemoryLimits = 0
number (GlobalInit g) = g
number (ExportOf e) = e
number (Body f) = f

-- this part comes before that one
abbrev pub IsBefore : Part → Part → Type 0
IsBefore p q = (kind p < kind q) ⊎ ((kind p ≡ kind q) × (number p < number q))

-- this is the first part that is not valid
abbrev pub IsFirstInvalid : Module → Part → Type 0
IsFirstInvalid m p = (IsValid m p → ⊥) × ((q : Part) → IsBefore q p → IsValid m q)
