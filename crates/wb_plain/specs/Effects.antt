-- What an instruction that is no jump does to a state.
use Rattle.std.specs.Prelude.{◌≡◌, ℕ, ◌+◌, ◌-◌, ◌*◌, ◌/◌, ◌^◌, Bool, true, false, ◌==◌, nat_le, List, [], ◌∷◌, ◌++◌, length, replicate, Option, Some, None, slice_get}
use Rattle.wb_plain.specs.Syntax.{NumType, I32, I64, Instr, Unreachable, Nop, Drop, Select, LocalGet, LocalSet, LocalTee, GlobalGet, GlobalSet, Load, Store, MemorySize, MemoryGrow, I32Const, I64Const, Unary, Binary}
use Rattle.wb_syntax.specs.Table.{Row, row_at}
use Rattle.wb_syntax.specs.Numbers.{Numeric, Yields, ByZero, TooLarge, unsigned, unary_by, binary_by}
use Rattle.wb_syntax.specs.Execute.{Word, word, TrapKind, Unreached, DivideByZero, Overflow, OutOfBounds, same_type, extended, page}
use Rattle.wb_state.specs.Words.{replaced}
use Rattle.wb_state.specs.Stack.{Stack, Taken, put, with_above, take_word, IsOver}
use Rattle.wb_state.specs.Frames.{with_current}
use Rattle.wb_state.specs.Bytes.{read_at, written_at}
pub use Rattle.wb_state.specs.declared.state.State.{State}
use Rattle.wb_plain.specs.Rows.{Operation, Loading, Storing, unary_types, binary_types, load_types, store_types}
use Rattle.wb_plain.specs.declared.outcome.TrapKind.{TrapKind as OwnTrapKind}
use Rattle.wb_plain.specs.declared.outcome.TrapKind.TheVariants.{Unreachable as OfUnreachable, DivideByZero as OfDivideByZero, Overflow as OfOverflow, OutOfBounds as OfOutOfBounds}
use Rattle.wb_plain.specs.declared.outcome.Outcome.{Outcome}
use Rattle.wb_plain.specs.declared.outcome.Outcome.TheVariants.{Goes, Full, Traps, Stuck}

-- what an instruction does
pub data Effect : Type 0 where
  Leaves : State → Effect
  Trapping : TrapKind → Effect
  Lost : Effect

-- the state with these operands
abbrev pub with_operands : State → Stack → State
with_operands s o = record s { operands = o }

-- a word is put on top
abbrev pub puts : State → Word → Effect
puts s w = Leaves (with_operands s (put w s.operands))

-- ---- numeric instructions

-- what an operation yields is put on top, or it traps
abbrev pub yields : State → NumType → Numeric → Effect
yields s t (Yields n) = puts s (word t n)
yields s t ByZero = Trapping DivideByZero
yields s t TooLarge = Trapping Overflow

-- one operand, which was taken
abbrev pub unary_taken : Row → Operation → State → Option Taken → Effect
unary_taken row t s None = Lost
unary_taken row t s (Some a) = puts (with_operands s a.left) (word t.gives (unary_by row a.bits))

-- an operation with one operand of these types
abbrev pub unary_typed : Row → State → Option Operation → Effect
unary_typed row s None = Lost
unary_typed row s (Some t) = unary_taken row t s (take_word t.takes s.operands)

-- the first operand, below the second
abbrev pub binary_second : Row → Operation → ℕ → State → Option Taken → Effect
binary_second row t b s None = Lost
binary_second row t b s (Some a) = yields (with_operands s a.left) t.gives (binary_by row a.bits b)

-- the second operand, on top
abbrev pub binary_first : Row → Operation → State → Option Taken → Effect
binary_first row t s None = Lost
binary_first row t s (Some b) = binary_second row t b.bits s (take_word t.takes b.left)

-- an operation with two operands of these types
abbrev pub binary_typed : Row → State → Option Operation → Effect
binary_typed row s None = Lost
binary_typed row s (Some t) = binary_first row t s (take_word t.takes s.operands)

-- ---- drop and select

-- the topmost word is dropped
abbrev pub drop_from : State → List Word → Effect
drop_from s [] = Lost
drop_from s (w ∷ ws) = Leaves (with_operands s (with_above s.operands ws))

-- the first of two words where the number is not zero, else the second
abbrev pub chosen : ℕ → (first second : Word) → Word
chosen n a b = elim (n == 0) [ true ↦ b | false ↦ a ]

-- one of two words of one type
abbrev pub select_one : Bool → State → Word → Effect
select_one true s w = puts s w
select_one false s w = Lost

-- one of the two topmost words
abbrev pub select_from : ℕ → State → Stack → List Word → Effect
select_from n s o [] = Lost
select_from n s o (b ∷ []) = Lost
select_from n s o (b ∷ a ∷ ws) = select_one (same_type a.type b.type) (with_operands s (with_above o ws)) (chosen n a b)

-- by a number, which was taken
abbrev pub select_taken : State → Option Taken → Effect
select_taken s None = Lost
select_taken s (Some n) = select_from n.bits s n.left n.left.above

-- ---- locals and globals

-- a word that is there is put on top
abbrev pub get : State → Option Word → Effect
get s None = Lost
get s (Some w) = puts s w

-- these locals, where they could be set
abbrev pub set_locals : State → Option (List Word) → Effect
set_locals s None = Lost
set_locals s (Some ws) = Leaves (record s { locals = with_current s.locals ws })

-- a local is set to the topmost word, which is taken
abbrev pub local_set : ℕ → State → List Word → Effect
local_set x s [] = Lost
local_set x s (w ∷ ws) = set_locals (with_operands s (with_above s.operands ws)) (replaced s.locals.current x w)

-- a local is set to the topmost word, which stays
abbrev pub local_tee : ℕ → State → List Word → Effect
local_tee x s [] = Lost
local_tee x s (w ∷ ws) = set_locals s (replaced s.locals.current x w)

-- these globals, where they could be set
abbrev pub set_globals : State → Option (List Word) → Effect
set_globals s None = Lost
set_globals s (Some ws) = Leaves (record s { globals = ws })

-- a global is set to the topmost word, which is taken
abbrev pub global_set : ℕ → State → List Word → Effect
global_set x s [] = Lost
global_set x s (w ∷ ws) = set_globals (with_operands s (with_above s.operands ws)) (replaced s.globals x w)

-- ---- memory

-- what was read is put on top, or it was not there
abbrev pub load_read : Loading → State → Option ℕ → Effect
load_read l s None = Trapping OutOfBounds
load_read l s (Some n) = puts s (word l.gives (extended l.gives l.sign (8 * l.bytes) n))

-- from a base, which was taken
abbrev pub load_taken : Loading → ℕ → List ℕ → State → Option Taken → Effect
load_taken l offset memory s None = Lost
load_taken l offset memory s (Some b) = load_read l (with_operands s b.left) (read_at memory (b.bits + offset) l.bytes)

-- from a memory, where there is one
abbrev pub load_in : Loading → ℕ → State → Option (List ℕ) → Effect
load_in l offset s None = Lost
load_in l offset s (Some memory) = load_taken l offset memory s (take_word I32 s.operands)

-- a load of this kind
abbrev pub load_typed : ℕ → State → Option Loading → Effect
load_typed offset s None = Lost
load_typed offset s (Some l) = load_in l offset s s.memory

-- what was written is the memory, or there is no room for it
abbrev pub store_written : State → Option (List ℕ) → Effect
store_written s None = Trapping OutOfBounds
store_written s (Some memory) = Leaves (record s { memory = Some memory })

-- at a base, which was taken
abbrev pub store_based : Storing → ℕ → ℕ → List ℕ → State → Option Taken → Effect
store_based l offset value memory s None = Lost
store_based l offset value memory s (Some b) = store_written (with_operands s b.left) (written_at memory (b.bits + offset) l.bytes value)

-- a value, which was taken
abbrev pub store_taken : Storing → ℕ → List ℕ → State → Option Taken → Effect
store_taken l offset memory s None = Lost
store_taken l offset memory s (Some v) = store_based l offset v.bits memory s (take_word I32 v.left)

-- to a memory, where there is one
abbrev pub store_in : Storing → ℕ → State → Option (List ℕ) → Effect
store_in l offset s None = Lost
store_in l offset s (Some memory) = store_taken l offset memory s (take_word l.takes s.operands)

-- a store of this kind
abbrev pub store_typed : ℕ → State → Option Storing → Effect
store_typed offset s None = Lost
store_typed offset s (Some l) = store_in l offset s s.memory

-- the pages of a memory
abbrev pub size_in : State → Option (List ℕ) → Effect
size_in s None = Lost
size_in s (Some memory) = puts s (word I32 (length memory / page))

-- so many pages of zeros more, where there is room for them: the old size is put on top, or else -1
abbrev pub grow_if : Bool → (pages : ℕ) → List ℕ → State → Effect
grow_if true pages memory s = puts (record s { memory = Some (memory ++ replicate (pages * page) 0) }) (word I32 (length memory / page))
grow_if false pages memory s = puts s (word I32 (2 ^ 32 - 1))

-- by a number of pages, which was taken, where the memory then has at most `room` pages
abbrev pub grow_taken : (room : ℕ) → List ℕ → State → Option Taken → Effect
grow_taken room memory s None = Lost
grow_taken room memory s (Some n) = grow_if (nat_le (length memory / page + n.bits) room) n.bits memory (with_operands s n.left)

-- a memory, where there is one, is to grow
abbrev pub grow_in : (room : ℕ) → State → Option (List ℕ) → Effect
grow_in room s None = Lost
grow_in room s (Some memory) = grow_taken room memory s (take_word I32 s.operands)

-- ---- all of them

-- what an instruction does that is no jump, where the memory may have `room` pages
abbrev pub effect : (room : ℕ) → Instr → State → Effect
effect room (I32Const z) s = puts s (word I32 (unsigned I32 z))
effect room (I64Const z) s = puts s (word I64 (unsigned I64 z))
effect room (Unary op) s = unary_typed (row_at op) s (unary_types (row_at op))
effect room (Binary op) s = binary_typed (row_at op) s (binary_types (row_at op))
effect room Drop s = drop_from s s.operands.above
effect room Select s = select_taken s (take_word I32 s.operands)
effect room (LocalGet x) s = get s (slice_get s.locals.current x)
effect room (LocalSet x) s = local_set x s s.operands.above
effect room (LocalTee x) s = local_tee x s s.operands.above
effect room (GlobalGet x) s = get s (slice_get s.globals x)
effect room (GlobalSet x) s = global_set x s s.operands.above
effect room (Load op align offset) s = load_typed offset s (load_types (row_at op))
effect room (Store op align offset) s = store_typed offset s (store_types (row_at op))
effect room MemorySize s = size_in s s.memory
effect room MemoryGrow s = grow_in room s s.memory
effect room Nop s = Leaves s
effect room Unreachable s = Trapping Unreached
effect room _ s = Lost

-- ---- what a call answers

-- why a run traps, as the definition of execution names it
abbrev pub kind_of : OwnTrapKind → TrapKind
kind_of OfUnreachable = Unreached
kind_of OfDivideByZero = DivideByZero
kind_of OfOverflow = Overflow
kind_of OfOutOfBounds = OutOfBounds

-- memory and globals are as before
abbrev pub SameStore : (old new : State) → Type 0
SameStore old new = (new.memory ≡ old.memory) × (new.globals ≡ old.globals)

-- for how many words and locals there is room is as before
abbrev pub SameRoom : (old new : State) → Type 0
SameRoom old new = (new.operands.room ≡ old.operands.room) × (new.locals.room ≡ old.locals.room)

-- more words would be left than there may be
abbrev pub IsOverfull : Effect → Type 0
IsOverfull (Leaves s) = IsOver s.operands
IsOverfull _ = ⊥

-- an effect ends so
abbrev pub Ends : Outcome → Effect → (old new : State) → Type 0
Ends Goes e old new = e ≡ Leaves new
Ends Full e old new = IsOverfull e × SameStore old new × SameRoom old new
Ends (Traps k) e old new = (e ≡ Trapping (kind_of k)) × SameStore old new × SameRoom old new
Ends Stuck e old new = (e ≡ Lost) × SameStore old new × SameRoom old new

-- ---- whether there is an effect

-- an instruction has an effect, a trap counted
abbrev pub has_effect : Effect → Bool
has_effect Lost = false
has_effect _ = true

-- instructions that may write to memory or to a global, or make memory larger
abbrev pub writes_store : Instr → Bool
writes_store (GlobalSet x) = true
writes_store (Store op align offset) = true
writes_store MemoryGrow = true
writes_store _ = false
