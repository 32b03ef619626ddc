-- Which instructions leave memory and globals as they are, and whether those have an effect that do not.
use Rattle.std.proofs.Common.{◌≡◌, ℕ, ◌+◌, List, [], ◌∷◌, refl, sym, ap, subst}
use Rattle.std.specs.Prelude.{Bool, true, false, Option, Some, None, slice_get}
use Rattle.wb_syntax.specs.Syntax.{Code}
use Rattle.wb_syntax.specs.Table.{Row, row_at}
use Rattle.wb_syntax.specs.Numbers.{Numeric, Yields, ByZero, TooLarge, binary_by}
use Rattle.wb_syntax.specs.Execute.{Word, Config, same_type}
use Rattle.wb_state.specs.Words.{replaced}
use Rattle.wb_state.specs.Stack.{Stack, Taken, take_word, with_above}
use Rattle.wb_state.specs.Bytes.{read_at}
use Rattle.wb_plain.specs.Syntax.{NumType, I32, Instr, Unreachable, Nop, Drop, Select, LocalGet, LocalSet, LocalTee, GlobalGet, GlobalSet, Load, Store, MemorySize, MemoryGrow, I32Const, I64Const, Unary, Binary}
use Rattle.wb_plain.specs.Rows.{Operation, Loading, unary_types, binary_types, load_types}
use Rattle.wb_plain.specs.Effects.{State, Effect, Leaves, Trapping, Lost, with_operands, yields, unary_taken, unary_typed, binary_second, binary_first, binary_typed, drop_from, chosen, select_one, select_from, select_taken, get, set_locals, local_set, local_tee, set_globals, load_read, load_taken, load_in, load_typed, store_written, size_in, grow_if, effect, SameStore, SameRoom, IsOverfull, Ends, has_effect, writes_store}
use Rattle.wb_plain.specs.Follows.{Keeps, is_step}
use Rattle.wb_plain.specs.declared.outcome.Outcome.{Outcome}
use Rattle.wb_plain.specs.declared.outcome.Outcome.TheVariants.{Goes, Full, Traps, Stuck}
use Rattle.wb_plain.proofs.Meaning.{as_move, KeptBy}

-- ---- what writes has an effect

pub written_has : (s : State) (o : Option (List ℕ)) → has_effect (store_written s o) ≡ true
written_has s None = refl
written_has s (Some memory) = refl

pub set_has : (s : State) (b : Bool) (ws : List Word) → has_effect (set_globals s (elim b [ true ↦ Some ws | false ↦ None ])) ≡ b
set_has s true ws = refl
set_has s false ws = refl

pub grow_has : (b : Bool) (pages : ℕ) (memory : List ℕ) (s : State) → has_effect (grow_if b pages memory s) ≡ true
grow_has true pages memory s = refl
grow_has false pages memory s = refl

-- ---- what does not write keeps the store

-- an effect keeps the store
abbrev pub Spares : State → Effect → Type 0
Spares s (Leaves t) = SameStore s t
Spares s _ = Unit {0}

yields_spares : (s : State) (o : Stack) (t : NumType) (x : Numeric) → Spares s (yields (with_operands s o) t x)
yields_spares s o t (Yields n) = (refl, refl)
yields_spares s o t ByZero = tt
yields_spares s o t TooLarge = tt

unary_taken_spares : (row : Row) (t : Operation) (s : State) (o : Option Taken) → Spares s (unary_taken row t s o)
unary_taken_spares row t s None = tt
unary_taken_spares row t s (Some a) = (refl, refl)

unary_spares : (row : Row) (s : State) (o : Option Operation) → Spares s (unary_typed row s o)
unary_spares row s None = tt
unary_spares row s (Some t) = unary_taken_spares row t s (take_word t.takes s.operands)

binary_second_spares : (row : Row) (t : Operation) (b : ℕ) (s : State) (o : Option Taken) → Spares s (binary_second row t b s o)
binary_second_spares row t b s None = tt
binary_second_spares row t b s (Some a) = yields_spares s a.left t.gives (binary_by row a.bits b)

binary_first_spares : (row : Row) (t : Operation) (s : State) (o : Option Taken) → Spares s (binary_first row t s o)
binary_first_spares row t s None = tt
binary_first_spares row t s (Some b) = binary_second_spares row t b.bits s (take_word t.takes b.left)

binary_spares : (row : Row) (s : State) (o : Option Operation) → Spares s (binary_typed row s o)
binary_spares row s None = tt
binary_spares row s (Some t) = binary_first_spares row t s (take_word t.takes s.operands)

drop_spares : (s : State) (ws : List Word) → Spares s (drop_from s ws)
drop_spares s [] = tt
drop_spares s (w ∷ ws) = (refl, refl)

select_one_spares : (b : Bool) (s : State) (o : Stack) (w : Word) → Spares s (select_one b (with_operands s o) w)
select_one_spares true s o w = (refl, refl)
select_one_spares false s o w = tt

select_from_spares : (n : ℕ) (s : State) (o : Stack) (ws : List Word) → Spares s (select_from n s o ws)
select_from_spares n s o [] = tt
select_from_spares n s o (b ∷ []) = tt
select_from_spares n s o (b ∷ a ∷ ws) = select_one_spares (same_type a.type b.type) s (with_above o ws) (chosen n a b)

select_spares : (s : State) (o : Option Taken) → Spares s (select_taken s o)
select_spares s None = tt
select_spares s (Some n) = select_from_spares n.bits s n.left n.left.above

get_spares : (s : State) (o : Option Word) → Spares s (get s o)
get_spares s None = tt
get_spares s (Some w) = (refl, refl)

set_locals_spares : (s : State) (o : Stack) (x : Option (List Word)) → Spares s (set_locals (with_operands s o) x)
set_locals_spares s o None = tt
set_locals_spares s o (Some ws) = (refl, refl)

local_set_spares : (x : ℕ) (s : State) (ws : List Word) → Spares s (local_set x s ws)
local_set_spares x s [] = tt
local_set_spares x s (w ∷ ws) = set_locals_spares s (with_above s.operands ws) (replaced s.locals.current x w)

local_tee_spares : (x : ℕ) (s : State) (ws : List Word) → Spares s (local_tee x s ws)
local_tee_spares x s [] = tt
local_tee_spares x s (w ∷ ws) = set_locals_spares s s.operands (replaced s.locals.current x w)

load_read_spares : (l : Loading) (s : State) (o : Stack) (x : Option ℕ) → Spares s (load_read l (with_operands s o) x)
load_read_spares l s o None = tt
load_read_spares l s o (Some n) = (refl, refl)

load_taken_spares : (l : Loading) (offset : ℕ) (memory : List ℕ) (s : State) (o : Option Taken) → Spares s (load_taken l offset memory s o)
load_taken_spares l offset memory s None = tt
load_taken_spares l offset memory s (Some b) = load_read_spares l s b.left (read_at memory (b.bits + offset) l.bytes)

load_in_spares : (l : Loading) (offset : ℕ) (s : State) (o : Option (List ℕ)) → Spares s (load_in l offset s o)
load_in_spares l offset s None = tt
load_in_spares l offset s (Some memory) = load_taken_spares l offset memory s (take_word I32 s.operands)

load_spares : (offset : ℕ) (s : State) (o : Option Loading) → Spares s (load_typed offset s o)
load_spares offset s None = tt
load_spares offset s (Some l) = load_in_spares l offset s s.memory

size_spares : (s : State) (o : Option (List ℕ)) → Spares s (size_in s o)
size_spares s None = tt
size_spares s (Some memory) = (refl, refl)

pub spares : (room : ℕ) (s : State) (i : Instr) → writes_store i ≡ false → Spares s (effect room i s)
spares room s (I32Const z) h = (refl, refl)
spares room s (I64Const z) h = (refl, refl)
spares room s (Unary op) h = unary_spares (row_at op) s (unary_types (row_at op))
spares room s (Binary op) h = binary_spares (row_at op) s (binary_types (row_at op))
spares room s Drop h = drop_spares s s.operands.above
spares room s Select h = select_spares s (take_word I32 s.operands)
spares room s (LocalGet x) h = get_spares s (slice_get s.locals.current x)
spares room s (LocalSet x) h = local_set_spares x s s.operands.above
spares room s (LocalTee x) h = local_tee_spares x s s.operands.above
spares room s (GlobalGet x) h = get_spares s (slice_get s.globals x)
spares room s (GlobalSet x) h = cc
spares room s (Load op align offset) h = load_spares offset s (load_types (row_at op))
spares room s (Store op align offset) h = cc
spares room s MemorySize h = size_spares s s.memory
spares room s MemoryGrow h = cc
spares room s Nop h = (refl, refl)
spares room s Unreachable h = tt
spares room s _ h = tt

-- ---- what a call answers

pub store_is : (r : Outcome) (e : Effect) (old new : State) → Spares old e → Ends r e old new → SameStore old new
store_is Goes e old new k h = subst (Spares old) h k
store_is Full e old new k h = h.1
store_is (Traps x) e old new k h = h.1
store_is Stuck e old new k h = h.1

pub room_is : (room : ℕ) (r : Outcome) (e : Effect) (old new : State) → KeptBy room old e → Ends r e old new → SameRoom old new
room_is room Goes e old new k h = let n : Keeps room old new = subst (KeptBy room old) h k in (n.room, n.local_room)
room_is room Full e old new k h = h.2
room_is room (Traps x) e old new k h = h.2
room_is room Stuck e old new k h = h.2

-- there is an effect unless the call is stuck
abbrev pub goes : Outcome → Bool
goes Stuck = false
goes _ = true

overfull_has : (e : Effect) → IsOverfull e → has_effect e ≡ true
overfull_has (Leaves s) h = refl
overfull_has (Trapping k) h = absurd h
overfull_has Lost h = absurd h

pub effect_is : (r : Outcome) (e : Effect) (old new : State) → Ends r e old new → goes r ≡ has_effect e
effect_is Goes e old new h = sym (ap has_effect h)
effect_is Full e old new h = sym (overfull_has e h.0)
effect_is (Traps k) e old new h = sym (ap has_effect h.0)
effect_is Stuck e old new h = sym (ap has_effect h.0)

-- a step that is an effect
pub step_is : (c : Config) (rest : Code) (s : State) (e : Effect) → is_step (as_move c rest s e) ≡ has_effect e
step_is c rest s (Leaves t) = refl
step_is c rest s (Trapping k) = refl
step_is c rest s Lost = refl
