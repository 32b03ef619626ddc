-- What an instruction that is no construct does to the operands, and what it leaves of what is known of them.
use Rattle.std.specs.Prelude.{◌^◌, nat_le, Bool, true, false, ◌&&◌, ℕ, List, [], ◌∷◌, ◌++◌, reverse, Option, Some, None, slice_get}
use Rattle.wb_valid.specs.Syntax.{NumType, I32, I64, Instr, Unreachable, Nop, Br, BrIf, BrTable, Return, Call, Drop, Select, LocalGet, LocalSet, LocalTee, GlobalGet, GlobalSet, Load, Store, MemorySize, MemoryGrow, I32Const, I64Const, Unary, Binary, FuncType, Global, list_of}
use Rattle.wb_syntax.specs.Table.{Row, Loads, Stores, Takes1, Takes2, row_at}
use Rattle.wb_syntax.specs.Typing.{Context}
use Rattle.wb_valid.specs.Operands.{Operands, Taken, same_type, anything, pops, take_any, put, put_result_on, joined}
pub use Rattle.wb_valid.specs.declared.rows.Takings.{Takings}
pub use Rattle.wb_valid.specs.declared.rows.Effect.{Effect}
pub use Rattle.wb_valid.specs.declared.rows.Effect.TheVariants.{Moves, Jumping, Calls, Drops, Selects, Refused}

-- the types that are taken, the top first
abbrev pub list_of_takings : Takings → List NumType
list_of_takings k = list_of k.first ++ list_of k.second

-- at most two operands are taken
abbrev pub taking : (first second : Option NumType) → Takings
taking f s = record { first = f; second = s }

-- nothing is taken, and this is given
abbrev pub gives : NumType → Effect
gives t = Moves (taking None None) (Some t)

-- the effect at an index, or there is nothing at it
abbrev pub at_index : {A : Type 0} → (A → Effect) → Option A → Effect
at_index e None = Refused
at_index e (Some x) = e x

-- the effect where a test holds
abbrev pub only_if : Bool → Effect → Effect
only_if true e = e
only_if false e = Refused

-- a global may be set
abbrev pub set_global : Global → Effect
set_global g = only_if g.mutable (Moves (taking (Some g.ty) None) None)

-- there is a memory, and the alignment is no greater than the access
abbrev pub is_access : Bool → (align bytes : ℕ) → Bool
is_access has_memory align bytes = has_memory && nat_le (2 ^ align) bytes

-- a load by its row
abbrev pub load_effect : Bool → ℕ → Row → Effect
load_effect m align (Loads t bytes e) = only_if (is_access m align bytes) (Moves (taking (Some I32) None) (Some t))
load_effect m align _ = Refused

-- a store by its row
abbrev pub store_effect : Bool → ℕ → Row → Effect
store_effect m align (Stores t bytes) = only_if (is_access m align bytes) (Moves (taking (Some t) (Some I32)) None)
store_effect m align _ = Refused

-- an operation with one operand by its row
abbrev pub unary_effect : Row → Effect
unary_effect (Takes1 t r op) = Moves (taking (Some t) None) (Some r)
unary_effect _ = Refused

-- an operation with two operands by its row
abbrev pub binary_effect : Row → Effect
binary_effect (Takes2 t r op) = Moves (taking (Some t) (Some t)) (Some r)
binary_effect _ = Refused

-- the two results are one
abbrev pub same_result : Option NumType → Option NumType → Bool
same_result None None = true
same_result (Some t) (Some u) = same_type t u
same_result _ _ = false

-- there is a label, and it carries this
abbrev pub carries : Option NumType → Option (Option NumType) → Bool
carries t None = false
carries t (Some u) = same_result t u

-- all these labels are there and carry this
abbrev pub all_carry : List (Option NumType) → Option NumType → List ℕ → Bool
all_carry labels t [] = true
all_carry labels t (l ∷ ls) = carries t (slice_get labels l) && all_carry labels t ls

-- what an instruction that is no construct does
abbrev pub effect : Context → Instr → Effect
effect c (I32Const z) = gives I32
effect c (I64Const z) = gives I64
effect c (Unary op) = unary_effect (row_at op)
effect c (Binary op) = binary_effect (row_at op)
effect c Drop = Drops
effect c Select = Selects
effect c (LocalGet x) = at_index gives (slice_get c.locals x)
effect c (LocalSet x) = at_index (λ t. Moves (taking (Some t) None) None) (slice_get c.locals x)
effect c (LocalTee x) = at_index (λ t. Moves (taking (Some t) None) (Some t)) (slice_get c.locals x)
effect c (GlobalGet x) = at_index (λ (g : Global). gives g.ty) (slice_get c.globals x)
effect c (GlobalSet x) = at_index set_global (slice_get c.globals x)
effect c (Load op align offset) = load_effect c.has_memory align (row_at op)
effect c (Store op align offset) = store_effect c.has_memory align (row_at op)
effect c MemorySize = only_if c.has_memory (gives I32)
effect c MemoryGrow = only_if c.has_memory (Moves (taking (Some I32) None) (Some I32))
effect c Nop = Moves (taking None None) None
effect c Unreachable = Jumping (taking None None)
effect c (Br l) = at_index (λ t. Jumping (taking None t)) (slice_get c.labels l)
effect c (BrIf l) = at_index (λ t. Moves (taking (Some I32) t) t) (slice_get c.labels l)
effect c (BrTable ls l) = at_index (λ t. only_if (all_carry c.labels t ls) (Jumping (taking (Some I32) t))) (slice_get c.labels l)
effect c Return = Jumping (taking None c.result)
effect c (Call f) = at_index Calls (slice_get c.funcs f)
effect c _ = Refused

-- behind a jump, where its operands were there
abbrev pub behind : Option Operands → Option Operands
behind None = None
behind (Some o) = Some anything

-- a call of a function of this type
abbrev pub call : Option FuncType → Operands → Option Operands
call None o = None
call (Some ft) o = put_result_on ft.result (pops (reverse ft.params) o)

-- what is left of an operand that was taken
abbrev pub left_of : Option Taken → Option Operands
left_of None = None
left_of (Some t) = Some t.left

-- an operand on top, where there is one
abbrev pub put_on : Option (Option NumType) → Operands → Option Operands
put_on None o = None
put_on (Some k) o = Some (put k o)

-- the second of two operands to select from
abbrev pub select_second : Option NumType → Option Taken → Option Operands
select_second k None = None
select_second k (Some t) = put_on (joined k t.operand) t.left

-- two operands to select from
abbrev pub select_first : Option Taken → Option Operands
select_first None = None
select_first (Some t) = select_second t.operand (take_any t.left)

-- the operand by which it is selected, and then the two
abbrev pub select_by : Option Operands → Option Operands
select_by None = None
select_by (Some o) = select_first (take_any o)

-- what an effect leaves of what is known
abbrev pub applied : List FuncType → Effect → Operands → Option Operands
applied types (Moves k r) o = put_result_on r (pops (list_of_takings k) o)
applied types (Jumping k) o = behind (pops (list_of_takings k) o)
applied types (Calls i) o = call (slice_get types i) o
applied types Drops o = left_of (take_any o)
applied types Selects o = select_by (pops (I32 ∷ []) o)
applied types Refused o = None
