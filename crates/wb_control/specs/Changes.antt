-- What a step of control does to a run.
use Rattle.std.specs.Prelude.{◌≡◌, ℕ, ◌+◌, ◌-◌, ◌*◌, ◌^◌, ◌<◌, ◌≤◌, min, Bool, true, false, ◌==◌, nat_lt, List, [], ◌∷◌, ◌++◌, length, Option, Some, None, slice_get}
use Rattle.wb_syntax.specs.Execute.{Word}
use Rattle.wb_state.specs.Words.{seen}
use Rattle.wb_state.specs.Stack.{Stack, height_of, with_above, raised, cut, lowest}
use Rattle.wb_state.specs.Frames.{count_of, left}
use Rattle.wb_plain.specs.Effects.{with_operands, SameStore, SameRoom}
use Rattle.wb_control.specs.Piles.{Label, Caller}
use Rattle.wb_state.specs.declared.words.Word.{Word as Held}
pub use Rattle.wb_control.specs.declared.run.Run.{Run}
use Rattle.wb_control.specs.declared.run.Flow.{Flow}
use Rattle.wb_control.specs.declared.run.Flow.TheVariants.{Settles, Goes, Moves, Full, Finishes, Traps, Stuck}

-- ---- words

-- the words of a run beside its operands: one for each label, the locals, four for each frame
abbrev pub others_in : Run → ℕ
others_in r = length r.labels.items + count_of r.state.locals + 4 * (length r.callers.items + 1)

-- all words of a run
abbrev pub words_in : Run → ℕ
words_in r = height_of r.state.operands + others_in r

-- the operands have the room that the rest leaves, and there is room for labels, locals and frames
pub record Fits (r : Run) : Type 0 where
  pub words : r.state.operands.most + others_in r ≡ r.state.operands.room
  pub labels : r.labels.room ≡ r.state.operands.room
  pub locals : r.state.locals.room ≡ r.state.operands.room
  pub callers : r.state.operands.room ≤ 4 * r.callers.room
  pub small : r.state.operands.room ≤ 2 ^ 32

-- there is as much room for labels and locals as for operands, and enough for the frames of so many words
pub record IsRoomy (r : Run) : Type 0 where
  pub labels : r.labels.room ≡ r.state.operands.room
  pub locals : r.state.locals.room ≡ r.state.operands.room
  pub callers : r.state.operands.room ≤ 4 * r.callers.room
  pub small : r.state.operands.room ≤ 2 ^ 32

-- for how much there is room is as before
abbrev pub SameRooms : (old new : Run) → Type 0
SameRooms old new = SameRoom old.state new.state × (new.labels.room ≡ old.labels.room) × (new.callers.room ≡ old.callers.room)

-- ---- changes

-- what a step of control does
pub data Change : Type 0 where
  -- the run goes on so
  Leads : Run → Change
  -- the first frame is left with these results
  Returns : List Word → Change
  Fails : Change

-- the word that is held, as a list
abbrev pub results_of : Option Held → List Word
results_of None = []
results_of (Some w) = seen w ∷ []

-- the run would go on with more words than there is room for
abbrev pub IsTooFull : (room : ℕ) → Change → Type 0
IsTooFull room (Leads r) = room < words_in r
IsTooFull room _ = ⊥

-- a change of a control instruction is answered so
abbrev pub Comes : Flow → Change → (old new : Run) → Type 0
Comes Settles c old new = ⊥
Comes Goes c old new = (c ≡ Leads new) × Fits new × SameStore old.state new.state × SameRooms old new × (new.place.func ≡ old.place.func)
Comes Moves c old new = (c ≡ Leads new) × Fits new × SameStore old.state new.state × SameRooms old new
Comes Full c old new = IsTooFull old.state.operands.room c × SameStore old.state new.state × SameRooms old new
Comes Finishes c old new = (c ≡ Returns (results_of new.result)) × SameStore old.state new.state × SameRooms old new
Comes (Traps k) c old new = ⊥
Comes Stuck c old new = (c ≡ Fails) × SameStore old.state new.state × SameRooms old new

-- this run is the one that is left, or there is no room for it
abbrev pub HasRoom : Run → Bool → (old new : Run) → Type 0
HasRoom q true old new = (q ≡ new) × Fits new × SameStore old.state new.state × SameRooms old new
HasRoom q false old new = (old.state.operands.room < words_in q) × SameStore old.state new.state × SameRooms old new

-- ---- constructs

-- at another place of the body
abbrev pub at_place : Run → ℕ → Run
at_place r next = record r { place = record r.place { at = next } }

-- with these operands
abbrev pub with_stack : Run → Stack → Run
with_stack r o = record r { state = with_operands r.state o }

-- with these labels
abbrev pub with_labels : Run → List Label → Run
with_labels r ls = record r { labels = record r.labels { items = ls } }

-- room for so many words is taken away
abbrev pub less : ℕ → Stack → Stack
less n o = record o { most = o.most - n }

-- room for so many words is given back
abbrev pub more : ℕ → Stack → Stack
more n o = record o { most = o.most + n }

-- the label of a construct that is entered
abbrev pub label_of : Stack → Bool → ℕ → Label
label_of o carries target = record { carries = carries; target = target; height = height_of o; floor = length o.below }

-- a construct is entered: its label is put on top, and its operands begin above all words
abbrev pub entered : (carries : Bool) → (target next : ℕ) → Run → Run
entered carries target next r =
    at_place (with_labels (with_stack r (raised (less 1 r.state.operands))) (label_of r.state.operands carries target ∷ r.labels.items)) next

-- the lowest words, up to this height, with a floor; both are no higher than there are words
abbrev pub cut_to : (height floor : ℕ) → Stack → Stack
cut_to h f o = cut (min h (height_of o)) (min f (min h (height_of o))) o

-- how many labels the frame that is run has
abbrev pub own_labels : Run → ℕ
own_labels r = length r.labels.items - r.place.labels

-- the innermost construct is left at its end, with all its words
abbrev pub left_label : (next : ℕ) → Run → List Label → Change
left_label next r [] = Fails
left_label next r (l ∷ ls) =
    Leads (at_place (with_labels (with_stack r (more 1 (cut_to (height_of r.state.operands) l.floor r.state.operands))) ls) next)

-- ---- results

-- words that were taken, and what is left
pub record Popped : Type 0 where
  pub words : List Word
  pub left : Stack

-- the topmost of these words
abbrev pub popped_from : Stack → List Word → Option Popped
popped_from o [] = None
popped_from o (w ∷ ws) = Some (record { words = w ∷ []; left = with_above o ws })

-- the topmost word where one is wanted, else nothing
abbrev pub popped : Bool → Stack → Option Popped
popped false o = Some (record { words = []; left = o })
popped true o = popped_from o o.above

-- a result was taken where one is wanted, or there is none
abbrev pub TakesResult : Option Popped → Option (Option Held) → (new : Stack) → Type 0
TakesResult want None new = want ≡ None
TakesResult want (Some w) new = want ≡ Some (record { words = results_of w; left = new })

-- these words are put on top
abbrev pub on_top : List Word → Stack → Stack
on_top ws o = with_above o (ws ++ o.above)

-- the same of a run
abbrev pub with_results : List Word → Run → Run
with_results ws r = with_stack r (on_top ws r.state.operands)

-- the number of results
abbrev pub result_count : Bool → ℕ
result_count false = 0
result_count true = 1

-- ---- the ends of functions

-- the frame that waits goes on, on these operands of the one that is left
abbrev pub back_in : Caller → List Caller → Stack → Run → Run
back_in k ks o r = record r {
  state = record r.state {
    operands = more 4 (more (length r.state.locals.current) (more (own_labels r) (cut_to r.place.bottom k.floor o)));
    locals = left (min k.base (length r.state.locals.outer)) r.state.locals;
  };
  labels = record r.labels { items = lowest r.place.labels r.labels.items };
  callers = record r.callers { items = ks };
  place = k.place;
}

-- the frame that is run is left with these results
abbrev pub left_frame : Run → List Caller → Popped → Change
left_frame r [] p = Returns p.words
left_frame r (k ∷ ks) p = Leads (with_results p.words (back_in k ks p.left r))

-- the frame that is run is left with results that are there
abbrev pub left_with : Run → Option Popped → Change
left_with r None = Fails
left_with r (Some p) = left_frame r r.callers.items p

-- a return: whatever else is above the floor
abbrev pub returned : Run → Change
returned r = left_with r (popped r.place.results r.state.operands)

-- the end of a function's body: exactly the results stand above the floor
abbrev pub finished : Run → Change
finished r = elim (length r.state.operands.above == result_count r.place.results) [ true ↦ returned r | false ↦ Fails ]

-- the end of a construct, or of the body
abbrev pub ended : (next : ℕ) → Run → Change
ended next r = elim (own_labels r == 0) [ true ↦ finished r | false ↦ left_label next r r.labels.items ]

-- ---- branches

-- at the target of a label, on these operands
abbrev pub at_label : ℕ → Label → Stack → Run → Run
at_label index l o r =
    at_place (with_labels (with_stack r (more (index + 1) (cut_to l.height l.floor o))) (lowest (length r.labels.items - (index + 1)) r.labels.items)) l.target

-- to a label, with what it carries
abbrev pub branched_with : Run → ℕ → Label → Option Popped → Change
branched_with r index l None = Fails
branched_with r index l (Some p) = Leads (with_results p.words (at_label index l p.left r))

-- to the label at this depth
abbrev pub branched_at : Run → ℕ → Option Label → Change
branched_at r index None = Fails
branched_at r index (Some l) = branched_with r index l (popped l.carries r.state.operands)

-- a branch past all labels of the frame is a return
abbrev pub branched : ℕ → Run → Change
branched index r = elim (nat_lt index (own_labels r)) [
  | true ↦ branched_at r index (slice_get r.labels.items index)
  | false ↦ elim (index == own_labels r) [ true ↦ returned r | false ↦ Fails ]
]
