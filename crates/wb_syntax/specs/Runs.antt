-- Whole runs (the standard, 4.5.4 and 4.5.5): how a run begins, its words and its steps, and how it ends.
use Rattle.std.specs.Prelude.{ℕ, zero, suc, ◌+◌, ◌*◌, Bool, true, false, ◌&&◌, nat_le, nat_lt, List, [], ◌∷◌, ◌++◌, length, take, replicate, sum, map, Option, Some, None, slice_get, ℤ}
use Rattle.std.specs.Str.{bytes_eq}
use Rattle.wb_syntax.specs.Syntax.{NumType, I32, I64, Instr, End, I32Const, I64Const, Code, FuncType, Func, Limits, Global, Exported, AFunc, AMemory, AGlobal, Export, Module}
use Rattle.wb_syntax.specs.Numbers.{signed, unsigned}
use Rattle.wb_syntax.specs.Nesting.{nested}
use Rattle.wb_syntax.specs.Execute.{Word, word, TheStore, Label, Frame, Config, TrapKind, Move, Goes, Finishes, Traps, NoRule, same_type, number_of, page, frame_of, type_of, machine_step}

-- ---- words: of a frame its locals, four, one for each label around its place, and the constants before its place

-- the words of a frame: all constants before the place count, those below its labels too
abbrev pub words_of_frame : Frame → ℕ
words_of_frame f = length f.locals + 4 + length f.labels + length f.stack + sum (map (λ (l : Label). length l.below) f.labels)

-- the words of a state: those of all its frames
abbrev pub words_of : Config → ℕ
words_of c = words_of_frame c.frame + sum (map words_of_frame c.callers)

-- ---- the beginning (4.5.4): memory zero at its least size, globals at their constants

-- zeros, of the least size; none where no memory is declared
abbrev pub memory_at_first : List Limits → Option (List ℕ)
memory_at_first [] = None
memory_at_first (l ∷ ls) = Some (replicate (l.min * page) 0)

-- the word of a constant expression
abbrev pub constant_of : List Instr → List Word
constant_of (I32Const z ∷ End ∷ []) = word I32 (unsigned I32 z) ∷ []
constant_of (I64Const z ∷ End ∷ []) = word I64 (unsigned I64 z) ∷ []
constant_of _ = []

-- each global at the word of its constant
abbrev pub globals_at_first : List Global → List Word
globals_at_first [] = []
globals_at_first (g ∷ gs) = constant_of g.init ++ globals_at_first gs

-- the store before the first run
abbrev pub store_at_first : Module → TheStore
store_at_first m = record { memory = memory_at_first m.memories; globals = globals_at_first m.globals }

-- the room, in pages, of a memory that never grows: its size
abbrev pub fixed_room : Module → ℕ
fixed_room m = sum (map (λ (l : Limits). l.min) m.memories)

-- ---- main: the exported function of this name, of any number of i64 to i64

-- "main"
abbrev pub main_name : List ℕ
main_name = 0x6D ∷ 0x61 ∷ 0x69 ∷ 0x6E ∷ []

-- the index of a function that is exported
abbrev pub func_of : Exported → Option ℕ
func_of (AFunc f) = Some f
func_of (AMemory x) = None
func_of (AGlobal g) = None

-- the index of the function that is exported by this name
abbrev pub exported_func : List ℕ → List Export → Option ℕ
exported_func name [] = None
exported_func name (e ∷ es) = elim (bytes_eq name e.name) [ true ↦ func_of e.what | false ↦ exported_func name es ]

-- what follows, where there is one
abbrev pub then_some : {A B : Type 0} → Option A → (A → Option B) → Option B
then_some None next = None
then_some (Some x) next = next x

-- all of these types are i64
abbrev pub all_i64 : List NumType → Bool
all_i64 [] = true
all_i64 (t ∷ ts) = same_type I64 t && all_i64 ts

-- there is a result, and it is an i64
abbrev pub gives_i64 : Option NumType → Bool
gives_i64 None = false
gives_i64 (Some t) = same_type I64 t

-- the function that main names, and its type
pub record Main : Type 0 where
  pub func : Func
  pub type : FuncType

-- the exported function main, where its type is any number of i64 to i64
abbrev pub main_of : Module → Option Main
main_of m = then_some (exported_func main_name m.exports) (λ x. then_some (slice_get m.funcs x) (λ f. then_some (type_of m f) (λ ft.
    elim (all_i64 ft.params && gives_i64 ft.result) [ true ↦ Some (record { func = f; type = ft }) | false ↦ None ])))

-- the number of arguments of main
abbrev pub main_arity : Module → Option ℕ
main_arity m = then_some (main_of m) (λ main. Some (length main.type.params))

-- ---- runs

-- how a run ends, with the store that it leaves, or that it has not ended within its steps
pub data RunEnd : Type 0 where
  Returned : ℤ → TheStore → RunEnd
  Trapped : TrapKind → TheStore → RunEnd
  StackFull : TheStore → RunEnd
  Stuck : TheStore → RunEnd
  -- the step limit
  Running : Config → RunEnd
  NoMain : RunEnd

-- a run has ended unless it is still running
abbrev pub HasEnded : RunEnd → Type 0
HasEnded (Running c) = ⊥
HasEnded _ = Unit {0}

-- a run has ended for want of words
abbrev pub IsStackFull : RunEnd → Type 0
IsStackFull (StackFull s) = Unit {0}
IsStackFull _ = ⊥

-- a run has ended in a state that is no end and has no step
abbrev pub IsStuck : RunEnd → Type 0
IsStuck (Stuck s) = Unit {0}
IsStuck _ = ⊥

-- the results of the first frame as an end: one word, read as signed
abbrev pub returned : List Word → TheStore → RunEnd
returned (w ∷ []) s = Returned (signed w.type w.bits) s
returned _ s = Stuck s

-- the end after a step from a state, by what the step leads to
abbrev pub after_step : Move → Config → (Config → RunEnd) → RunEnd
after_step (Goes d) c next = next d
after_step (Finishes results s) c next = returned results s
after_step (Traps kind s) c next = Trapped kind s
after_step NoRule c next = Stuck c.store

-- the end with no step to come: still running, but a state that has no step is stuck at once
abbrev pub before_step : Move → Config → RunEnd
before_step (Goes d) c = Running c
before_step (Finishes results s) c = Running c
before_step (Traps kind s) c = Running c
before_step NoRule c = Stuck c.store

module _ (m : Module) (room : ℕ) where
  -- a run from this state with at most so many words and at most n steps: at each state the words are looked at first
  abbrev pub runs : (words n : ℕ) → Config → RunEnd
  runs words zero c = elim (nat_lt words (words_of c)) [ true ↦ StackFull c.store | false ↦ before_step (machine_step m room c) c ]
  runs words (suc n) c = elim (nat_lt words (words_of c)) [ true ↦ StackFull c.store | false ↦ after_step (machine_step m room c) c (runs words n) ]

  -- the first state: main in a frame of its own, with these arguments as its first locals
  abbrev pub first_config : Main → List ℤ → TheStore → Code → Config
  first_config main args s body = record { frame = frame_of main.func main.type (map (λ z. word I64 (unsigned I64 z)) args) body; callers = []; store = s }

  -- a run of main on these arguments (4.5.5), from this store, which stays where nothing is run
  abbrev pub run_main : TheStore → List ℤ → (words n : ℕ) → RunEnd
  run_main s args words n = elim (main_of m) [
    | None ↦ NoMain
    | Some main ↦ elim (nested main.func.body) [ None ↦ Stuck s | Some body ↦ runs words n (first_config main args s body) ]
  ]

-- the first run of a module whose memory never grows
abbrev pub mach : Module → List ℤ → (words n : ℕ) → RunEnd
mach m args words n = run_main m (fixed_room m) (store_at_first m) args words n

-- the 32-bit word at address 0, or 0 where memory has none
abbrev pub status_in : List ℕ → ℕ
status_in memory = elim (nat_le 4 (length memory)) [ true ↦ number_of (take 4 memory) | false ↦ 0 ]

-- the status word of a store
abbrev pub status : TheStore → ℕ
status s = elim s.memory [ None ↦ 0 | Some memory ↦ status_in memory ]
