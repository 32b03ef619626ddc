-- What an instruction does to a run is what the definition of execution does.
use Rattle.std.specs.Prelude.{◌≡◌, ℕ, suc, ◌+◌, ◌^◌, ◌<◌, ◌≤◌, Bool, true, false, List, Option, Some, None, slice_get}
use Rattle.wb_syntax.specs.declared.syntax.NumType.TheVariants.{I32, I64}
use Rattle.wb_syntax.specs.declared.syntax.Instr.{Instr}
use Rattle.wb_syntax.specs.declared.syntax.Instr.TheVariants.{Block, Loop, If, Else, End, Br, BrIf, BrTable, Return, Call, I32Const, I64Const}
use Rattle.wb_syntax.specs.declared.syntax.Func.{Func}
use Rattle.wb_syntax.specs.declared.syntax.Module.{Module}
use Rattle.wb_syntax.specs.Syntax.{Code}
use Rattle.wb_syntax.specs.Numbers.{unsigned}
use Rattle.wb_syntax.specs.Execute.{Word, word, Config, Traps, NoRule, machine_step}
use Rattle.wb_syntax.specs.Runs.{RunEnd, Trapped, StackFull, Running, Stuck, words_of, returned, before_step, runs}
use Rattle.wb_state.specs.Stack.{put, height_of, IsOver}
use Rattle.wb_plain.specs.Effects.{State, kind_of, SameStore, writes_store}
use Rattle.wb_plain.specs.Follows.{store_of, Keeps, step_of, move_to}
use Rattle.wb_plain.specs.declared.outcome.Outcome.{Outcome}
use Rattle.wb_plain.specs.declared.outcome.Outcome.TheVariants.{Goes as OutcomeGoes, Full as OutcomeFull, Traps as OutcomeTraps, Stuck as OutcomeStuck}
use Rattle.wb_code.specs.declared.leading.Jump.{Jump}
use Rattle.wb_control.specs.Changes.{Run, Change, Fails, Fits, Comes, SameRooms, words_in, results_of, at_place, with_stack}
use Rattle.wb_control.specs.Steps.{controlled}
use Rattle.wb_control.specs.Stands.{Stands}
use Rattle.wb_control.specs.declared.run.Flow.{Flow}
use Rattle.wb_control.specs.declared.run.Flow.TheVariants.{Settles as FlowSettles, Goes as FlowGoes, Moves as FlowMoves, Full as FlowFull, Finishes as FlowFinishes, Traps as FlowTraps, Stuck as FlowStuck}

-- ---- instructions

-- a control instruction
abbrev pub is_control : Instr → Bool
is_control (Block t) = true
is_control (Loop t) = true
is_control (If t) = true
is_control Else = true
is_control End = true
is_control (Br l) = true
is_control (BrIf l) = true
is_control (BrTable ls l) = true
is_control Return = true
is_control (Call x) = true
is_control _ = false

-- a constant, which is a value and takes no step
abbrev pub is_constant : Instr → Bool
is_constant (I32Const z) = true
is_constant (I64Const z) = true
is_constant _ = false

-- no constant stands at the place of a run
abbrev pub IsSettled : Module → Run → Type 0
IsSettled m r = (f : Func) (i : Instr) → slice_get m.funcs r.place.func ≡ Some f → slice_get f.body r.place.at ≡ Some i → is_constant i ≡ false

-- the word of a constant
abbrev pub constant_word : Instr → Option Word
constant_word (I32Const z) = Some (word I32 (unsigned I32 z))
constant_word (I64Const z) = Some (word I64 (unsigned I64 z))
constant_word _ = None

-- a run with its constants put stands for the same configuration, which has no more words than there is room for; or it
-- has more
abbrev pub Settles : Module → Config → Bool → (old new : Run) → Type 0
Settles m c true old new = Stands m new c × (words_of c ≤ old.state.operands.room)
Settles m c false old new = old.state.operands.room < words_of c

-- a run that was settled is ready for a step
abbrev pub IsReady : Module → Bool → Run → Type 0
IsReady m true r = Fits r × IsSettled m r
IsReady m false r = Unit {0}

-- ---- what an instruction does to a run

-- a constant is put so
abbrev pub Puts : Flow → Word → (next : ℕ) → (old new : Run) → Type 0
Puts FlowSettles w next old new = (new ≡ at_place (with_stack old (put w old.state.operands)) next) × Fits new
Puts FlowFull w next old new = IsOver (put w old.state.operands) × SameStore old.state new.state × SameRooms old new
Puts _ w next old new = ⊥

-- what an instruction comes to that was carried out on the state of a run
abbrev pub flow_of : Outcome → Flow
flow_of OutcomeGoes = FlowGoes
flow_of OutcomeFull = FlowFull
flow_of (OutcomeTraps k) = FlowTraps k
flow_of OutcomeStuck = FlowStuck

-- the run in this state
abbrev pub in_state : Run → State → Run
in_state r s = record r { state = s }

-- an instruction that is no control instruction and no constant, where memory has this room: the run goes on
-- behind it in the state that its step leaves, or it does not
abbrev pub Straightens : Flow → (room : ℕ) → Instr → (next : ℕ) → (old new : Run) → Type 0
Straightens FlowGoes room i next old new =
    (new ≡ at_place (in_state old new.state) next) × Fits new × Keeps room old.state new.state
    × ((m : Module) (c : Config) (rest : Code) → step_of m room c rest i old.state ≡ move_to c rest new.state)
    × (writes_store i ≡ false → SameStore old.state new.state)
Straightens FlowFull room i next old new =
    ((m : Module) (c : Config) (rest : Code) → (s : State) × (step_of m room c rest i old.state ≡ move_to c rest s) × Keeps room old.state s × (old.state.operands.room < words_in (in_state old s))
    × (height_of old.state.operands ≤ old.state.operands.most → SameStore old.state s))
    × SameStore old.state new.state × SameRooms old new
Straightens (FlowTraps k) room i next old new =
    ((m : Module) (c : Config) (rest : Code) → step_of m room c rest i old.state ≡ Traps (kind_of k) (store_of old.state)) × SameStore old.state new.state × SameRooms old new
Straightens FlowStuck room i next old new = ((m : Module) (c : Config) (rest : Code) → step_of m room c rest i old.state ≡ NoRule) × SameStore old.state new.state × SameRooms old new
Straightens _ room i next old new = ⊥

-- an instruction is carried out so, where memory has this room
abbrev pub Carries : Flow → Module → (room : ℕ) → List (List Jump) → (next : ℕ) → Instr → (old new : Run) → Type 0
Carries flow m room js next i old new = elim (constant_word i) [
  | Some w ↦ Puts flow w next old new
  | None ↦ elim (is_control i) [ true ↦ Comes flow (controlled m js next old i) old new | false ↦ Straightens flow room i next old new ]
]

-- ---- runs

-- the run of the definition from a configuration, with the words of this run and this room of the memory
abbrev pub runs_from : Module → (room : ℕ) → Run → (limit : ℕ) → Config → RunEnd
runs_from m room r n c = runs m room r.state.operands.room n c

-- the first step from this configuration leads to one for which the run stands that is left
abbrev pub StepsTo : Module → (room : ℕ) → Config → (old new : Run) → Type 0
StepsTo m room c old new = (d : Config) × Stands m new d × ((n : ℕ) → runs_from m room old (suc n) c ≡ runs_from m room old n d)

-- how the run of the definition goes on from a configuration, where it may make a step and any number more, and memory has
-- this room
abbrev pub Advances : Module → (room : ℕ) → Config → Flow → (old new : Run) → Type 0
Advances m room c FlowSettles old new = Stands m new c
Advances m room c FlowGoes old new = StepsTo m room c old new
Advances m room c FlowMoves old new = StepsTo m room c old new
Advances m room c FlowFull old new = (n : ℕ) → runs_from m room old (suc n) c ≡ StackFull (store_of new.state)
Advances m room c FlowFinishes old new = (n : ℕ) → runs_from m room old (suc n) c ≡ returned (results_of new.result) (store_of new.state)
Advances m room c (FlowTraps k) old new = (n : ℕ) → runs_from m room old (suc n) c ≡ Trapped (kind_of k) (store_of new.state)
Advances m room c FlowStuck old new = (n : ℕ) → runs_from m room old (suc n) c ≡ Stuck (store_of new.state)

-- a run that goes on fits
abbrev pub FitsOn : Flow → Run → Type 0
FitsOn FlowSettles r = Fits r
FitsOn FlowGoes r = Fits r
FitsOn FlowMoves r = Fits r
FitsOn _ r = Unit {0}

-- memory and globals are as before where no step is made that goes on
abbrev pub Spares : Flow → (old new : Run) → Type 0
Spares FlowGoes old new = Unit {0}
Spares FlowMoves old new = Unit {0}
Spares _ old new = SameStore old.state new.state

-- where a run goes on that stays in its frame
abbrev pub Stays : Flow → (old new : Run) → Type 0
Stays FlowSettles old new = (new.place.func ≡ old.place.func) × (new.place.at ≡ old.place.at + 1) × (new.place.at < 2 ^ 64)
Stays FlowGoes old new = new.place.func ≡ old.place.func
Stays _ old new = Unit {0}

-- ---- whether a step follows

-- an instruction has a step
abbrev pub is_made : Flow → Bool
is_made FlowStuck = false
is_made _ = true

-- a change is made or not
abbrev pub Answers : Change → Bool → Type 0
Answers Fails b = b ≡ false
Answers _ b = b ≡ true

-- with no step to come a run is still running where there is a step, and else stuck
abbrev pub HasStep : Module → (room : ℕ) → Config → Bool → Type 0
HasStep m room c true = before_step (machine_step m room c) c ≡ Running c
HasStep m room c false = before_step (machine_step m room c) c ≡ Stuck c.store

-- ---- the beginning

-- a run stands for this configuration, or that has more words than there is room for
abbrev pub Begins : Module → Config → Bool → (old new : Run) → Type 0
Begins m c true old new = Stands m new c
Begins m c false old new = old.state.operands.room < words_of c

-- a run that begins fits
abbrev pub FitsFrom : Bool → Run → Type 0
FitsFrom true r = Fits r
FitsFrom false r = Unit {0}
