-- How what an instruction does to a state is a step of the definition of execution.
use Rattle.std.specs.Prelude.{◌≡◌, ℕ, ◌+◌, ◌*◌, ◌/◌, ◌<◌, ◌≤◌, Bool, true, false, List, length, Option, Some, None}
use Rattle.wb_syntax.specs.Syntax.{Code}
use Rattle.wb_plain.specs.Syntax.{Instr, Br, BrIf, BrTable, Return, Call, Module}
use Rattle.wb_syntax.specs.Execute.{TheStore, Config, Move, Traps as Trapped, NoRule, page, goes_at, plain}
use Rattle.wb_state.specs.Stack.{height_of, IsOver}
use Rattle.wb_plain.specs.Effects.{State, kind_of, SameStore}
use Rattle.wb_plain.specs.declared.outcome.Outcome.{Outcome}
use Rattle.wb_plain.specs.declared.outcome.Outcome.TheVariants.{Goes, Full, Traps, Stuck}

-- not a jump, a return or a call
abbrev pub IsStraight : Instr → Type 0
IsStraight (Br l) = ⊥
IsStraight (BrIf l) = ⊥
IsStraight (BrTable ls l) = ⊥
IsStraight Return = ⊥
IsStraight (Call f) = ⊥
IsStraight _ = Unit {0}

-- the store of a state
abbrev pub store_of : State → TheStore
store_of s = record { memory = s.memory; globals = s.globals }

-- the configuration whose innermost frame has the locals of a state, and whose store is that of the state
abbrev pub showing : Config → State → Config
showing c s = record c { frame = record c.frame { locals = s.locals.current }; store = store_of s }

-- the pages of a memory, or none
abbrev pub pages_of : Option (List ℕ) → ℕ
pages_of None = 0
pages_of (Some memory) = length memory / page

-- the step that the definition makes at an instruction, in a configuration with the locals and the store of a state, on
-- the words above the floor, before this code, where the memory may have `room` pages
abbrev pub step_of : Module → (room : ℕ) → Config → Code → Instr → State → Move
step_of m room c rest i s = plain m room (showing c s) s.operands.above rest i

-- the step to a state
abbrev pub move_to : Config → Code → State → Move
move_to c rest s = goes_at (showing c s) s.operands.above rest

-- the length of a memory, where there is one
abbrev pub length_of : Option (List ℕ) → Option ℕ
length_of None = None
length_of (Some memory) = Some (length memory)

-- a memory is longer by whole pages, or as long as before; it grows to no more than `room` pages
abbrev pub GrowsWithin : (room : ℕ) → (old new : Option (List ℕ)) → Type 0
GrowsWithin room None None = Unit {0}
GrowsWithin room (Some old) (Some new) = (more : ℕ) × (length new ≡ length old + more * page) × (0 < more → length old / page + more ≤ room)
GrowsWithin room _ _ = ⊥

-- what no such instruction changes: the words below the floor, how many there may be and for how many there is room,
-- the locals of the frames around, how many locals there are and for how many there is room; and the memory grows to no
-- more than `pages` pages
pub record Keeps (pages : ℕ) (old new : State) : Type 0 where
  pub below : new.operands.below ≡ old.operands.below
  pub most : new.operands.most ≡ old.operands.most
  pub room : new.operands.room ≡ old.operands.room
  pub outer : new.locals.outer ≡ old.locals.outer
  pub local_room : new.locals.room ≡ old.locals.room
  pub locals : length new.locals.current ≡ length old.locals.current
  pub size : GrowsWithin pages old.memory new.memory

-- the step is to a state with more words than there may be, which keeps the rest; memory and globals too, where there
-- were not more words before it
abbrev pub GoesOver : (room : ℕ) → Config → Code → Move → (old : State) → Type 0
GoesOver room c rest move old =
    (s : State) × (move ≡ move_to c rest s) × IsOver s.operands × Keeps room old s × (height_of old.operands ≤ old.operands.most → SameStore old s)

-- a step is this one
abbrev pub Follows : Outcome → (room : ℕ) → Config → Code → Move → (old new : State) → Type 0
Follows Goes room c rest move old new = move ≡ move_to c rest new
Follows Full room c rest move old new = GoesOver room c rest move old × SameStore old new
Follows (Traps k) room c rest move old new = (move ≡ Trapped (kind_of k) (store_of old)) × SameStore old new
Follows Stuck room c rest move old new = (move ≡ NoRule) × SameStore old new

-- that is so where a step was made
abbrev pub KeepsWhereItGoes : Outcome → (room : ℕ) → (old new : State) → Type 0
KeepsWhereItGoes Goes room old new = Keeps room old new
KeepsWhereItGoes _ room old new = Unit {0}

-- a step follows
abbrev pub is_step : Move → Bool
is_step NoRule = false
is_step _ = true
