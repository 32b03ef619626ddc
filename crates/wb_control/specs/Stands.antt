-- For which configuration of the definition of execution a run stands.
use Rattle.std.specs.Prelude.{◌≡◌, ℕ, List, [], ◌∷◌, ◌++◌, length, drop, Some, None, slice_get}
use Rattle.wb_syntax.specs.declared.syntax.Instr.{Instr}
use Rattle.wb_syntax.specs.declared.syntax.Func.{Func}
use Rattle.wb_syntax.specs.declared.syntax.Module.{Module}
use Rattle.wb_syntax.specs.Syntax.{Code, Nothing}
use Rattle.wb_syntax.specs.Nesting.{Level, levels, nested}
use Rattle.wb_syntax.specs.Execute.{Word, Label as Opened, Frame, Config, placed_at}
use Rattle.wb_code.specs.declared.leading.Jump.{Jump}
use Rattle.wb_code.specs.Jumps.{AreJumps}
use Rattle.wb_plain.specs.Follows.{store_of}
use Rattle.wb_control.specs.Piles.{Label, Place, Caller}
use Rattle.wb_control.specs.Changes.{Run, result_count}

-- ---- modules

-- each body has nested code
abbrev pub AllNested : Module → Type 0
AllNested m = (x : ℕ) (f : Func) → slice_get m.funcs x ≡ Some f → (c : Code) × (nested f.body ≡ Some c)

-- the function that is run has this body
abbrev pub HasBody : Module → Run → List Instr → Type 0
HasBody m r b = (f : Func) × (slice_get m.funcs r.place.func ≡ Some f) × (f.body ≡ b)

-- where the constructs of each body lead
abbrev pub AllLead : Module → List (List Jump) → Type 0
AllLead m js = (x : ℕ) (f : Func) → slice_get m.funcs x ≡ Some f → (j : List Jump) × (slice_get js x ≡ Some j) × AreJumps f.body j

-- ---- constructs

-- a label of a run is this label, where the levels outside its construct are k and ls: the words below the floor are
-- those below the label, and then the rest
pub record LabelStands (b : List Instr) (l : Label) (o : Opened) (k : Level) (ls : List Level) (under rest : List Word) : Type 0 where
  pub carries : o.carries ≡ result_count l.carries
  pub below : under ≡ o.below ++ rest
  pub height : l.height ≡ length under
  pub floor : l.floor ≡ length rest
  pub target : levels (drop l.target b) ≡ Some (record k { code = o.branch } ∷ ls)

-- the levels at a place of a body are the code and the labels of a frame; tail are the words of the frames around it
abbrev pub Open : (b : List Instr) → List Level → List Label → Code → List Opened → (under tail : List Word) → Type 0
Open b (l ∷ []) [] code [] under tail = (l.code ≡ code) × (l.other ≡ None) × (under ≡ tail)
Open b (l ∷ k ∷ ls) (a ∷ rs) code (o ∷ os) under tail = (l.code ≡ code) × ((rest : List Word) × LabelStands b a o k ls under rest × Open b (k ∷ ls) rs o.after os rest tail)
Open b _ _ code _ under tail = ⊥

-- ---- frames

-- a place in a function is this code, with these labels open
pub record IsInside (m : Module) (p : Place) (own : List Label) (code : Code) (labels : List Opened) (under tail : List Word) : Type 0 where
  pub func : Func
  pub named : slice_get m.funcs p.func ≡ Some func
  pub there : List Level
  pub here : levels (drop p.at func.body) ≡ Some there
  pub opens : Open func.body there own code labels under tail
  pub bottom : p.bottom ≡ length tail

-- a frame that waits is this frame: its labels, its words and its locals are the first of those that are left
pub record FrameWaits (m : Module) (k : Caller) (f : Frame) (own rest ls : List Label) (beneath under tail : List Word) (before outer : List Word) : Type 0 where
  pub labels : ls ≡ own ++ rest
  pub mark : k.place.labels ≡ length rest
  pub words : under ≡ f.stack ++ beneath
  pub floor : k.floor ≡ length beneath
  pub locals : outer ≡ before ++ f.locals
  pub base : k.base ≡ length before
  pub results : f.results ≡ result_count k.place.results
  pub inside : IsInside m k.place own f.code f.labels beneath tail

-- the frames that wait are these frames
abbrev pub Wait : Module → List Caller → List Label → (under outer : List Word) → List Frame → Type 0
Wait m [] ls under outer [] = (ls ≡ []) × (under ≡ []) × (outer ≡ [])
Wait m (k ∷ ks) ls under outer (f ∷ fs) =
    (own : List Label) × (rest : List Label) × (beneath : List Word) × (tail : List Word) × (before : List Word)
    × FrameWaits m k f own rest ls beneath under tail before outer × Wait m ks rest tail before fs
Wait m _ ls under outer _ = ⊥

-- ---- runs

-- the configuration of a run at this code, with these labels and these frames around
abbrev pub shown : Run → Code → List Opened → List Frame → Config
shown r code labels callers = record {
  frame = placed_at (record { locals = r.state.locals.current; results = result_count r.place.results; labels = labels; stack = []; code = Nothing }) r.state.operands.above code;
  callers = callers;
  store = store_of r.state;
}

-- a run stands for this configuration
pub record Stands (m : Module) (r : Run) (c : Config) : Type 0 where
  pub code : Code
  pub labels : List Opened
  pub own : List Label
  pub rest : List Label
  pub tail : List Word
  pub callers : List Frame
  pub split : r.labels.items ≡ own ++ rest
  pub mark : r.place.labels ≡ length rest
  pub inside : IsInside m r.place own code labels r.state.operands.below tail
  pub waits : Wait m r.callers.items rest tail r.state.locals.outer callers
  pub is : c ≡ shown r code labels callers
