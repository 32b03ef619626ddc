-- States as what is run in a frame at a place, with what is around it.
use Rattle.std.specs.Prelude.{◌≡◌, ℕ, ◌+◌, ◌≤◌, suc, ℤ, List, [], ◌∷◌, ◌++◌, length, drop, sum, map, Some}
use Rattle.wb_syntax.specs.declared.syntax.Func.{Func}
use Rattle.wb_syntax.specs.declared.syntax.FuncType.{FuncType}
use Rattle.wb_syntax.specs.declared.syntax.Module.{Module}
use Rattle.wb_syntax.specs.declared.syntax.NumType.TheVariants.{I32, I64}
use Rattle.wb_syntax.specs.declared.syntax.Instr.TheVariants.{I32Const, I64Const}
use Rattle.wb_syntax.specs.Syntax.{Plain, Code, Then, list_of, expanded}
use Rattle.wb_syntax.specs.Numbers.{unsigned}
use Rattle.wb_syntax.specs.Nesting.{nested}
use Rattle.wb_syntax.specs.Execute.{Word, word, TheStore, Label, Frame, Config, settle, zeros}
use Rattle.wb_syntax.specs.Runs.{Main, main_of, run_main, runs, words_of, words_of_frame}

-- what is around a place: how many results its frame gives, the labels of the frame, the innermost first, and the frames that wait
pub record Surroundings : Type 0 where
  pub results : ℕ
  pub labels : List Label
  pub callers : List Frame

-- the state with these locals and this store, and with these words before this code
abbrev pub state : Surroundings → (locals : List Word) → TheStore → List Word → Code → Config
state a locals store ws code =
    let s = settle ws code in
    let f : Frame = record { locals = locals; results = a.results; labels = a.labels; stack = s.0; code = s.1 } in
    record { frame = f; callers = a.callers; store = store }

-- the words around a place in a frame of so many locals: all words of a state but those before the place
abbrev pub words_around : Surroundings → (locals : ℕ) → ℕ
words_around a locals = locals + 4 + length a.labels + sum (map (λ (l : Label). length l.below) a.labels) + sum (map words_of_frame a.callers)

-- with these words before the place, a state has at most so many
abbrev pub WordsFit : (most : ℕ) → Surroundings → (locals ws : List Word) → Type 0
WordsFit most a locals ws = words_around a (length locals) + length ws ≤ most

-- inside one more label
abbrev pub inside_label : Label → Surroundings → Surroundings
inside_label l a = record a { labels = l ∷ a.labels }

-- outside of label n
abbrev pub outside_label : ℕ → Surroundings → Surroundings
outside_label n a = record a { labels = drop (suc n) a.labels }

-- the frame that waits for a call, with these words before the code behind it
abbrev pub waiting : Surroundings → (locals ws : List Word) → (rest : Code) → Frame
waiting a locals ws rest = record { locals = locals; results = a.results; labels = a.labels; stack = ws; code = rest }

-- in a frame of a function of this type, for which these frames wait
abbrev pub in_call : FuncType → List Frame → Surroundings
in_call ft callers = record { results = length (list_of ft.result); labels = []; callers = callers }

-- in a frame that waited, with these frames behind it
abbrev pub in_frame : Frame → List Frame → Surroundings
in_frame f callers = record { results = f.results; labels = f.labels; callers = callers }

-- the locals of a call at first: its arguments, and zeros
abbrev pub locals_at_first : Func → (arguments : List Word) → List Word
locals_at_first f arguments = arguments ++ zeros (expanded f.locals)

-- ---- laws

-- the words of a state
abbrev pub WordsOfState : Type 0
WordsOfState = (a : Surroundings) (locals ws : List Word) (s : TheStore) (c : Code) → words_of (state a locals s ws c) ≡ words_around a (length locals) + length (settle ws c).0

-- a label is one word, and has those below its construct
abbrev pub WordsInLabel : Type 0
WordsInLabel = (a : Surroundings) (l : Label) (locals : ℕ) → words_around (inside_label l a) locals ≡ words_around a locals + 1 + length l.below

-- a frame is four words and its locals, and has all of the state from which it was called but the arguments
abbrev pub WordsInCall : Type 0
WordsInCall = (a : Surroundings) (locals ws : List Word) (rest : Code) (ft : FuncType) (n : ℕ) →
    words_around (in_call ft (waiting a locals ws rest ∷ a.callers)) n ≡ n + 4 + words_around a (length locals) + length ws

-- a constant of 32 bits (4.4.1) takes no step: before it the state is the one with its word
abbrev pub ConstantIs32 : Type 0
ConstantIs32 = (a : Surroundings) (locals ws : List Word) (s : TheStore) (z : ℤ) (rest : Code) →
    state a locals s ws (Then (Plain (I32Const z)) rest) ≡ state a locals s (word I32 (unsigned I32 z) ∷ ws) rest

-- the same of 64 bits
abbrev pub ConstantIs64 : Type 0
ConstantIs64 = (a : Surroundings) (locals ws : List Word) (s : TheStore) (z : ℤ) (rest : Code) →
    state a locals s ws (Then (Plain (I64Const z)) rest) ≡ state a locals s (word I64 (unsigned I64 z) ∷ ws) rest

-- a run of main (4.5.5) begins with its body on no words, with its arguments as its first locals
abbrev pub MainBegins : Type 0
MainBegins = (m : Module) (room : ℕ) (s : TheStore) (args : List ℤ) (words n : ℕ) (main : Main) (body : Code) →
    main_of m ≡ Some main → nested main.func.body ≡ Some body →
    run_main m room s args words n
    ≡ runs m room words n (state (in_call main.type []) (locals_at_first main.func (map (λ z. word I64 (unsigned I64 z)) args)) s [] body)
