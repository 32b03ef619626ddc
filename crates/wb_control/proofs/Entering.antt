-- Entering a construct is a step of the definition of execution, and so is the jump over a second branch.
use Rattle.std.proofs.Common.{◌≡◌, ℕ, List, [], ◌∷◌, ◌++◌, length, drop, refl, sym, ap, length-append}
use Rattle.std.specs.Prelude.{Bool, Some, slice_get}
use Rattle.wb_syntax.specs.declared.syntax.Func.{Func}
use Rattle.wb_syntax.specs.declared.syntax.Module.{Module}
use Rattle.wb_syntax.specs.Syntax.{Code, Nothing}
use Rattle.wb_syntax.specs.Nesting.{Level, levels}
use Rattle.wb_syntax.specs.Execute.{Word, Label as Opened, Frame, Config, Goes, placed_at, enter}
use Rattle.wb_plain.specs.Follows.{store_of}
use Rattle.wb_control.specs.Piles.{Label, Place}
use Rattle.wb_control.specs.Changes.{Run, Leads, result_count, label_of, entered}
use Rattle.wb_control.specs.Stands.{LabelStands, Open, Wait, Stands}
use Rattle.wb_control.proofs.Levels.{IsAt, in_func}
use Rattle.wb_control.proofs.Leaving.{IsStep}
use Rattle.wb_control.proofs.Branching.{shaped}

-- a construct is entered: its label leads to this code, and behind it is the code of the next level
entered_stands : (m : Module) (r : Run) (f : Func) (carries : Bool) (target next : ℕ) (branch : Code) (inner first : Level) (others : List Level) (own rest : List Label) (labels : List Opened) (tail : List Word) (fs : List Frame)
    → slice_get m.funcs r.place.func ≡ Some f → levels (drop next f.body) ≡ Some (inner ∷ first ∷ others) → levels (drop target f.body) ≡ Some (record first { code = branch } ∷ others)
    → Open f.body (first ∷ others) own first.code labels r.state.operands.below tail
    → r.labels.items ≡ own ++ rest → r.place.labels ≡ length rest → r.place.bottom ≡ length tail → Wait m r.callers.items rest tail r.state.locals.outer fs
    → (let o : Opened = record { carries = result_count carries; branch = branch; after = first.code; below = r.state.operands.above } in
    Stands m (entered carries target next r) (record { frame = placed_at (record { locals = r.state.locals.current; results = result_count r.place.results; labels = o ∷ labels; stack = []; code = Nothing }) [] inner.code; callers = fs; store = store_of r.state }))
entered_stands m r f carries target next branch inner first others own rest labels tail fs named behind leads opens split mark bottom w =
    let s = r.state.operands in
    let o : Opened = record { carries = result_count carries; branch = branch; after = first.code; below = s.above } in
    let l : Label = label_of s carries target in
    let stands : LabelStands f.body l o first others (s.above ++ s.below) s.below = record {
      carries = refl;
      below = refl;
      height = sym (length-append s.above s.below);
      floor = refl;
      target = leads;
    } in
    let i : IsAt f.body next (l ∷ own) inner.code (o ∷ labels) (s.above ++ s.below) tail = record {
      there = inner ∷ first ∷ others;
      here = behind;
      opens = (refl, (s.below, stands, opens));
    } in
    let p : Place = record r.place { at = next } in
    record {
      code = inner.code;
      labels = o ∷ labels;
      own = l ∷ own;
      rest = rest;
      tail = tail;
      callers = fs;
      split = ap (λ xs. l ∷ xs) split;
      mark = mark;
      inside = in_func m p f (l ∷ own) inner.code (o ∷ labels) (s.above ++ s.below) tail named bottom i;
      waits = w;
      is = refl;
    }

-- a construct is entered in one step
pub enter_step : (m : Module) (r : Run) (f : Func) (carries : Bool) (n target next : ℕ) (branch : Code) (inner first : Level) (others : List Level) (own rest : List Label) (labels : List Opened) (tail : List Word) (fs : List Frame) (stack : List Word) (code : Code)
    → n ≡ result_count carries
    → slice_get m.funcs r.place.func ≡ Some f → levels (drop next f.body) ≡ Some (inner ∷ first ∷ others) → levels (drop target f.body) ≡ Some (record first { code = branch } ∷ others)
    → Open f.body (first ∷ others) own first.code labels r.state.operands.below tail
    → r.labels.items ≡ own ++ rest → r.place.labels ≡ length rest → r.place.bottom ≡ length tail → Wait m r.callers.items rest tail r.state.locals.outer fs
    → IsStep m r (enter (shaped r labels fs stack code) branch n inner.code first.code r.state.operands.above) (Leads (entered carries target next r))
enter_step m r f carries n target next branch inner first others own rest labels tail fs stack code e named behind leads opens split mark bottom w =
    let F : ℕ → Config = λ k. record {
      frame = placed_at (record { locals = r.state.locals.current; results = result_count r.place.results; labels = record { carries = k; branch = branch; after = first.code; below = r.state.operands.above } ∷ labels; stack = []; code = Nothing }) [] inner.code;
      callers = fs;
      store = store_of r.state;
    } in
    (F (result_count carries), ap (λ k. Goes (F k)) e, entered_stands m r f carries target next branch inner first others own rest labels tail fs named behind leads opens split mark bottom w)
