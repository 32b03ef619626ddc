-- What a call does to a run.
use Rattle.std.specs.Prelude.{◌≡◌, ℕ, ◌+◌, ◌-◌, ◌<◌, Bool, true, false, List, [], ◌∷◌, ◌++◌, length, take, reverse, map, Option, Some, None, slice_get, ℤ}
use Rattle.wb_syntax.specs.declared.syntax.NumType.{NumType}
use Rattle.wb_syntax.specs.declared.syntax.NumType.TheVariants.{I64}
use Rattle.wb_syntax.specs.declared.syntax.FuncType.{FuncType}
use Rattle.wb_syntax.specs.declared.syntax.Func.{Func}
use Rattle.wb_syntax.specs.declared.syntax.Module.{Module}
use Rattle.wb_syntax.specs.Syntax.{expanded}
use Rattle.wb_syntax.specs.Numbers.{unsigned}
use Rattle.wb_syntax.specs.Execute.{Word, word, have_types, zeros, type_of}
use Rattle.wb_state.specs.Stack.{Stack, height_of, cut, empty}
use Rattle.wb_state.specs.Frames.{entered, with_current, none}
use Rattle.wb_control.specs.Changes.{Run, Fits, Change, Leads, Fails, words_in, less}

-- the topmost words above the floor are arguments of these types
abbrev pub passes : List NumType → Stack → Bool
passes ts o = have_types ts (reverse (take (length ts) o.above))

-- there is a result
abbrev pub is_there : Option NumType → Bool
is_there None = false
is_there (Some t) = true

-- the frame of a call: its locals are the arguments, which are taken, and zeros
abbrev pub opened : (func next : ℕ) → Func → FuncType → Run → Run
opened x next f ft r =
    let o = r.state.operands in
    let n = length ft.params in
    let h = height_of o - n in
    let zs = zeros (expanded f.locals) in
    record r {
      state = record r.state {
        operands = less n (cut h h (less (length (expanded f.locals) + 4) o));
        locals = with_current (entered r.state.locals) (reverse (take n o.above) ++ zs);
      };
      callers = record r.callers { items = record { place = record r.place { at = next }; floor = length o.below; base = length r.state.locals.outer } ∷ r.callers.items };
      place = record { func = x; at = 0; results = is_there ft.result; labels = length r.labels.items; bottom = h };
    }

-- a call of a function of this type
abbrev pub called_as : (func next : ℕ) → Run → Func → Option FuncType → Change
called_as x next r f None = Fails
called_as x next r f (Some ft) = elim (passes ft.params r.state.operands) [ true ↦ Leads (opened x next f ft r) | false ↦ Fails ]

-- a call of a function
abbrev pub called_of : Module → (func next : ℕ) → Run → Option Func → Change
called_of m x next r None = Fails
called_of m x next r (Some f) = called_as x next r f (type_of m f)

-- a call of a function by its index
abbrev pub called : Module → (func next : ℕ) → Run → Change
called m x next r = called_of m x next r (slice_get m.funcs x)

-- ---- the beginning

-- numbers as words
abbrev pub words_as : List ℤ → List Word
words_as zs = map (λ z. word I64 (unsigned I64 z)) zs

-- what was run is forgotten, but for memory and globals
abbrev pub forgotten : Run → Run
forgotten r = record r {
  state = record r.state { operands = empty r.state.operands.room; locals = none r.state.locals.room };
  labels = record r.labels { items = [] };
  callers = record r.callers { items = [] };
}

-- a run at the beginning of a function: its locals are the arguments and zeros, and there is no frame around
abbrev pub begun : (func : ℕ) → Func → FuncType → List ℤ → Run → Run
begun x f ft args r =
    let q = forgotten r in
    record q {
      state = record q.state {
        operands = less (length args + length (expanded f.locals) + 4) q.state.operands;
        locals = with_current q.state.locals (words_as args ++ zeros (expanded f.locals));
      };
      place = record { func = x; at = 0; results = is_there ft.result; labels = 0; bottom = 0 };
    }

-- this is the run that begins, or there is no room for it
abbrev pub Opens : Run → Bool → (old new : Run) → Type 0
Opens q true old new = (new ≡ q) × Fits new
Opens q false old new = old.state.operands.room < words_in q
