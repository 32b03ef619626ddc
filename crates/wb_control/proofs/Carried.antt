-- An instruction that is carried out is a constant or a step.
use Rattle.std.proofs.Common.{◌≡◌, ℕ, zero, suc, ◌+◌, ◌*◌, ◌/◌, ◌^◌, ◌<◌, ◌≤◌, List, length, arith, refl, sym, ap, subst, ◌∙◌, add-one}
use Rattle.std.specs.Prelude.{Bool, true, false, Option, Some, None, slice_get}
use Rattle.wb_syntax.specs.declared.syntax.Instr.{Instr}
use Rattle.wb_syntax.specs.declared.syntax.Instr.TheVariants.{GlobalSet, Store, MemoryGrow, I32Const, I64Const}
use Rattle.wb_syntax.specs.declared.syntax.Module.{Module}
use Rattle.wb_syntax.specs.Execute.{Word, TheStore, Config, page}
use Rattle.wb_syntax.specs.Runs.{StackFull, words_of}
use Rattle.wb_state.specs.Stack.{height_of, put}
use Rattle.wb_plain.specs.Effects.{State, SameStore, writes_store}
use Rattle.wb_plain.specs.Follows.{store_of, pages_of, length_of, GrowsWithin}
use Rattle.wb_plain.proofs.Meaning.{same_size}
use Rattle.wb_code.specs.declared.leading.Jump.{Jump}
use Rattle.wb_control.specs.Changes.{Run, Fits, Comes, SameRooms, at_place, with_stack}
use Rattle.wb_control.specs.Steps.{controlled}
use Rattle.wb_control.specs.Stands.{HasBody, AllNested, AllLead, Stands}
use Rattle.wb_control.specs.Advances.{is_control, is_constant, constant_word, Puts, Straightens, Carries, Advances, FitsOn, Stays, Spares, is_made, HasStep}
use Rattle.wb_control.specs.declared.run.Flow.{Flow}
use Rattle.wb_control.specs.declared.run.Flow.TheVariants.{Settles as FlowSettles, Goes as FlowGoes, Moves as FlowMoves, Full as FlowFull, Finishes as FlowFinishes, Traps as FlowTraps, Stuck as FlowStuck}
use Rattle.wb_control.proofs.Advanced.{same_store, control_moves, straight_moves, has_control, has_straight, made}
use Rattle.wb_control.proofs.Constants.{body_there, put_in, over, not_constant, settled_words}
use Rattle.wb_control.proofs.Running.{full_at, moved}

-- what was carried out is what an instruction of its kind does
abbrev CarriesAs : (w : Option Word) → (control : Bool) → Flow → Module → (room : ℕ) → List (List Jump) → (next : ℕ) → Instr → (old new : Run) → Type 0
CarriesAs w b flow m room js next i old new = elim w [
  | Some v ↦ Puts flow v next old new
  | None ↦ elim b [ true ↦ Comes flow (controlled m js next old i) old new | false ↦ Straightens flow room i next old new ]
]

-- an instruction that is no control instruction and no constant
pub as_straight : (flow : Flow) (m : Module) (room : ℕ) (js : List (List Jump)) (next : ℕ) (i j : Instr) (old new : Run) → j ≡ i → constant_word i ≡ None → is_control i ≡ false
    → Straightens flow room i next old new → Carries flow m room js next j old new
as_straight flow m room js next i j old new e k h s =
    let F : Instr → Type 0 = λ x. Carries flow m room js next x old new in
    let it : CarriesAs None false flow m room js next i old new = s in
    let by : CarriesAs (constant_word i) false flow m room js next i old new = subst (λ w. CarriesAs w false flow m room js next i old new) (sym k) it in
    subst F (sym e) (subst (λ b. CarriesAs (constant_word i) b flow m room js next i old new) (sym h) by)

-- ---- a constant

-- the store of the configuration for which a run stands
store_there : (m : Module) (r : Run) (c : Config) → Stands m r c → c.store ≡ store_of r.state
store_there m r c s = ap (λ (d : Config). d.store) s.is

stayed : (m : Module) (room : ℕ) (c : Config) (flow : Flow) (b : List Instr) (i : Instr) (w : Word) (next : ℕ) (old new : Run) → next ≡ old.place.at + 1 → Fits old
    → HasBody m old b → slice_get b old.place.at ≡ Some i → constant_word i ≡ Some w → Stands m old c → Puts flow w next old new → Advances m room c flow old new
stayed m room c FlowSettles b i w next old new e f h there k s p =
    let n : next ≡ suc old.place.at = e ∙ add-one old.place.at in
    subst (λ r. Stands m r c) (sym (p.0 ∙ ap (at_place (with_stack old (put w old.state.operands))) n)) (put_in m old c b i w h there k s)
stayed m room c FlowFull b i w next old new e f h there k s p = λ n.
    full_at m room old.state.operands.room (suc n) c (over m old c b i w f h there k p.0 s)
    ∙ ap (λ (x : TheStore). StackFull x) (store_there m old c s ∙ same_store old.state new.state p.1)
stayed m room c FlowGoes b i w next old new e f h there k s p = absurd p
stayed m room c FlowMoves b i w next old new e f h there k s p = absurd p
stayed m room c FlowFinishes b i w next old new e f h there k s p = absurd p
stayed m room c (FlowTraps x) b i w next old new e f h there k s p = absurd p
stayed m room c FlowStuck b i w next old new e f h there k s p = absurd p

-- ---- any instruction

-- the words of a configuration at an instruction that is no constant are those of the run
enough : (m : Module) (c : Config) (b : List Instr) (i : Instr) (r : Run) → Fits r → height_of r.state.operands ≤ r.state.operands.most → HasBody m r b → slice_get b r.place.at ≡ Some i → is_constant i ≡ false → Stands m r c → words_of c ≤ r.state.operands.room
enough m c b i r f l h there k s = let w = settled_words m r c h.0 i h.1 (body_there m r b i h there) k s in omega (arith, w, f.words, l)

carried_as : (m : Module) (room : ℕ) (js : List (List Jump)) (c : Config) (flow : Flow) (b : List Instr) (i : Instr) (next : ℕ) (old new : Run) (w : Option Word) (control : Bool)
    → next ≡ old.place.at + 1 → Fits old → height_of old.state.operands ≤ old.state.operands.most → HasBody m old b → slice_get b old.place.at ≡ Some i → constant_word i ≡ w
    → is_control i ≡ control → AllNested m → AllLead m js → Stands m old c → CarriesAs w control flow m room js next i old new → Advances m room c flow old new
carried_as m room js c flow b i next old new (Some w) control e f l h there k x nests leads s p = stayed m room c flow b i w next old new e f h there k s p
carried_as m room js c flow b i next old new None true e f l h there k x nests leads s p =
    moved m room c flow old new (enough m c b i old f l h there (not_constant i k) s) (store_there m old c s)
    (control_moves m js room next c flow h.0 i old new e nests leads h.1 (body_there m old b i h there) x s p)
carried_as m room js c flow b i next old new None false e f l h there k x nests leads s p =
    moved m room c flow old new (enough m c b i old f l h there (not_constant i k) s) (store_there m old c s)
    (straight_moves m room next c flow h.0 i old new e l h.1 (body_there m old b i h there) x (not_constant i k) s p)

pub carried : (m : Module) (room : ℕ) (js : List (List Jump)) (c : Config) (flow : Flow) (b : List Instr) (i : Instr) (next : ℕ) (old new : Run) → next ≡ old.place.at + 1
    → Fits old → height_of old.state.operands ≤ old.state.operands.most → HasBody m old b → slice_get b old.place.at ≡ Some i → AllNested m → AllLead m js → Stands m old c
    → Carries flow m room js next i old new → Advances m room c flow old new
carried m room js c flow b i next old new e f l h there nests leads s p = carried_as m room js c flow b i next old new (constant_word i) (is_control i) e f l h there refl refl nests leads s p

-- ---- what is left

-- memory that is as before
kept_within : (room : ℕ) (old new : State) → SameStore old new → GrowsWithin room old.memory new.memory
kept_within room old new h = subst (GrowsWithin room old.memory) (sym h.0) (same_size room old.memory)

-- a length that grows by no page
none_more : (new old size more : ℕ) → new ≡ old + more * page → (0 < more → size + more ≤ size) → new ≡ old
none_more new old size zero e h = omega (arith, e)
none_more new old size (suc n) e h = let l = h (omega arith) in absurd (omega (arith, l))

-- a memory that has its room keeps its size
pub whole : (old new : Option (List ℕ)) → GrowsWithin (pages_of old) old new → length_of new ≡ length_of old
whole None None h = refl
whole None (Some new) h = absurd h
whole (Some old) None h = absurd h
whole (Some old) (Some new) h = let l = h.1 in let k : length new ≡ length old = none_more (length new) (length old) (length old / page) h.0 l h.2 in ap Some k

-- what the next instruction finds, where there is one, and what is kept
pub record Left (flow : Flow) (pages : ℕ) (old new : Run) : Type 0 where
  pub fits : FitsOn flow new
  pub stays : Stays flow old new
  pub store : Spares flow old new
  pub size : GrowsWithin pages old.state.memory new.state.memory
  pub room : SameRooms old new

put_left : (flow : Flow) (room : ℕ) (w : Word) (next : ℕ) (old new : Run) → next ≡ old.place.at + 1 → next < 2 ^ 64 → Puts flow w next old new → Left flow room old new
put_left FlowSettles room w next old new e n p =
    subst (λ r. Fits r → Left FlowSettles room old r) (sym p.0)
    (λ f. record { fits = f; stays = (refl, e, n); store = (refl, refl); size = same_size room old.state.memory; room = ((refl, refl), refl, refl) }) p.1
put_left FlowFull room w next old new e n p = record { fits = tt; stays = tt; store = p.1; size = kept_within room old.state new.state p.1; room = p.2 }
put_left FlowGoes room w next old new e n p = absurd p
put_left FlowMoves room w next old new e n p = absurd p
put_left FlowFinishes room w next old new e n p = absurd p
put_left (FlowTraps x) room w next old new e n p = absurd p
put_left FlowStuck room w next old new e n p = absurd p

control_left : (flow : Flow) (m : Module) (room : ℕ) (js : List (List Jump)) (next : ℕ) (i : Instr) (old new : Run) → Comes flow (controlled m js next old i) old new → Left flow room old new
control_left FlowSettles m room js next i old new h = absurd h
control_left FlowGoes m room js next i old new h = record { fits = h.1; stays = h.4; store = tt; size = kept_within room old.state new.state h.2; room = h.3 }
control_left FlowMoves m room js next i old new h = record { fits = h.1; stays = tt; store = tt; size = kept_within room old.state new.state h.2; room = h.3 }
control_left FlowFull m room js next i old new h = record { fits = tt; stays = tt; store = h.1; size = kept_within room old.state new.state h.1; room = h.2 }
control_left FlowFinishes m room js next i old new h = record { fits = tt; stays = tt; store = h.1; size = kept_within room old.state new.state h.1; room = h.2 }
control_left (FlowTraps k) m room js next i old new h = absurd h
control_left FlowStuck m room js next i old new h = record { fits = tt; stays = tt; store = h.1; size = kept_within room old.state new.state h.1; room = h.2 }

straight_left : (flow : Flow) (room : ℕ) (i : Instr) (next : ℕ) (old new : Run) → Straightens flow room i next old new → Left flow room old new
straight_left FlowSettles room i next old new h = absurd h
straight_left FlowGoes room i next old new h =
    let p = h.0 in
    record {
      fits = h.1;
      stays = ap (λ (r : Run). r.place.func) p;
      store = tt;
      size = h.2.size;
      room = ((h.2.room, h.2.local_room), ap (λ (r : Run). r.labels.room) p, ap (λ (r : Run). r.callers.room) p);
    }
straight_left FlowMoves room i next old new h = absurd h
straight_left FlowFull room i next old new h = record { fits = tt; stays = tt; store = h.1; size = kept_within room old.state new.state h.1; room = h.2 }
straight_left FlowFinishes room i next old new h = absurd h
straight_left (FlowTraps k) room i next old new h = record { fits = tt; stays = tt; store = h.1; size = kept_within room old.state new.state h.1; room = h.2 }
straight_left FlowStuck room i next old new h = record { fits = tt; stays = tt; store = h.1; size = kept_within room old.state new.state h.1; room = h.2 }

left_as : (w : Option Word) (control : Bool) (flow : Flow) (m : Module) (room : ℕ) (js : List (List Jump)) (next : ℕ) (i : Instr) (old new : Run) → next ≡ old.place.at + 1
    → next < 2 ^ 64 → CarriesAs w control flow m room js next i old new → Left flow room old new
left_as (Some w) control flow m room js next i old new e n p = put_left flow room w next old new e n p
left_as None true flow m room js next i old new e n p = control_left flow m room js next i old new p
left_as None false flow m room js next i old new e n p = straight_left flow room i next old new p

pub left : (flow : Flow) (m : Module) (room : ℕ) (js : List (List Jump)) (next : ℕ) (i : Instr) (old new : Run) → next ≡ old.place.at + 1 → next < 2 ^ 64
    → Carries flow m room js next i old new → Left flow room old new
left flow m room js next i old new e n p = left_as (constant_word i) (is_control i) flow m room js next i old new e n p

-- ---- whether a step follows

no_word : (i : Instr) → is_constant i ≡ false → constant_word i ≡ None
no_word (I32Const z) h = cc
no_word (I64Const z) h = cc
no_word _ h = refl

-- what an instruction does that is no constant
no_constant : (flow : Flow) (m : Module) (room : ℕ) (js : List (List Jump)) (next : ℕ) (i : Instr) (old new : Run) → is_constant i ≡ false → Carries flow m room js next i old new
    → CarriesAs None (is_control i) flow m room js next i old new
no_constant flow m room js next i old new h p = subst (λ w. CarriesAs w (is_control i) flow m room js next i old new) (no_word i h) p

has_as : (control : Bool) (m : Module) (room : ℕ) (js : List (List Jump)) (c : Config) (flow : Flow) (b : List Instr) (i : Instr) (next : ℕ) (old new : Run)
    → next ≡ old.place.at + 1 → HasBody m old b → slice_get b old.place.at ≡ Some i → is_constant i ≡ false → is_control i ≡ control → AllNested m → AllLead m js → Stands m old c
    → CarriesAs None control flow m room js next i old new → HasStep m room c (is_made flow)
has_as true m room js c flow b i next old new e h there k x nests leads s p = has_control m js room next c flow h.0 i old new e nests leads h.1 (body_there m old b i h there) x s p
has_as false m room js c flow b i next old new e h there k x nests leads s p =
    has_straight m room c h.0 i old (is_made flow) h.1 (body_there m old b i h there) x k s (λ d rest. made flow room i next old new m d rest p)

pub has_made : (m : Module) (room : ℕ) (js : List (List Jump)) (c : Config) (flow : Flow) (b : List Instr) (i : Instr) (next : ℕ) (old new : Run) → next ≡ old.place.at + 1
    → HasBody m old b → slice_get b old.place.at ≡ Some i → is_constant i ≡ false → AllNested m → AllLead m js → Stands m old c → Carries flow m room js next i old new
    → HasStep m room c (is_made flow)
has_made m room js c flow b i next old new e h there k nests leads s p =
    has_as (is_control i) m room js c flow b i next old new e h there k refl nests leads s (no_constant flow m room js next i old new k p)

control_spares : (flow : Flow) (m : Module) (js : List (List Jump)) (next : ℕ) (i : Instr) (old new : Run) → Comes flow (controlled m js next old i) old new → SameStore old.state new.state
control_spares FlowSettles m js next i old new h = absurd h
control_spares FlowGoes m js next i old new h = h.2
control_spares FlowMoves m js next i old new h = h.2
control_spares FlowFull m js next i old new h = h.1
control_spares FlowFinishes m js next i old new h = h.1
control_spares (FlowTraps k) m js next i old new h = absurd h
control_spares FlowStuck m js next i old new h = h.1

straight_spares : (flow : Flow) (room : ℕ) (i : Instr) (next : ℕ) (old new : Run) → writes_store i ≡ false → Straightens flow room i next old new → SameStore old.state new.state
straight_spares FlowSettles room i next old new w h = absurd h
straight_spares FlowGoes room i next old new w h = h.4 w
straight_spares FlowMoves room i next old new w h = absurd h
straight_spares FlowFull room i next old new w h = h.1
straight_spares FlowFinishes room i next old new w h = absurd h
straight_spares (FlowTraps k) room i next old new w h = h.1
straight_spares FlowStuck room i next old new w h = h.1

spares_as : (control : Bool) (flow : Flow) (m : Module) (room : ℕ) (js : List (List Jump)) (next : ℕ) (i : Instr) (old new : Run) → writes_store i ≡ false
    → CarriesAs None control flow m room js next i old new → SameStore old.state new.state
spares_as true flow m room js next i old new w p = control_spares flow m js next i old new p
spares_as false flow m room js next i old new w p = straight_spares flow room i next old new w p

pub no_control : (i : Instr) → writes_store i ≡ true → is_control i ≡ false
no_control (GlobalSet x) h = refl
no_control (Store op align offset) h = refl
no_control MemoryGrow h = refl
no_control _ h = cc

pub spares : (flow : Flow) (m : Module) (room : ℕ) (js : List (List Jump)) (next : ℕ) (i : Instr) (old new : Run) → is_constant i ≡ false → writes_store i ≡ false
    → Carries flow m room js next i old new → SameStore old.state new.state
spares flow m room js next i old new k w p = spares_as (is_control i) flow m room js next i old new w (no_constant flow m room js next i old new k p)
