-- What an instruction does to a run is a step of the definition of execution.
use Rattle.std.proofs.Common.{◌≡◌, ℕ, zero, suc, ◌+◌, ◌<◌, ◌≤◌, List, [], ◌∷◌, length, drop, arith, refl, sym, ap, subst, ◌∙◌, add-one}
use Rattle.std.specs.Prelude.{Bool, true, false, Some, None, slice_get}
use Rattle.wb_syntax.specs.declared.syntax.Instr.{Instr}
use Rattle.wb_syntax.specs.declared.syntax.Instr.TheVariants.{Block, Loop, If, Else, End, Br, BrIf, BrTable, Return, Call, I32Const, I64Const}
use Rattle.wb_syntax.specs.declared.syntax.Func.{Func}
use Rattle.wb_syntax.specs.declared.syntax.Module.{Module}
use Rattle.wb_syntax.specs.Syntax.{Code, Then, Plain}
use Rattle.wb_syntax.specs.Nesting.{Level, put, put_instr, levels}
use Rattle.wb_syntax.specs.Execute.{Word, TheStore, Label as Opened, Frame, Config, Move, Goes, Finishes, Traps, NoRule, settle, step_at, machine_step}
use Rattle.wb_syntax.specs.Runs.{words_of, before_step}
use Rattle.wb_code.specs.declared.leading.Jump.{Jump}
use Rattle.wb_state.specs.Stack.{height_of, IsOver}
use Rattle.wb_plain.specs.Effects.{State, kind_of, SameStore, effect, Ends}
use Rattle.wb_plain.specs.Laws.{EffectsFollow}
use Rattle.wb_plain.specs.declared.outcome.Outcome.{Outcome}
use Rattle.wb_plain.specs.declared.outcome.Outcome.TheVariants.{Goes as OutcomeGoes, Full as OutcomeFull, Traps as OutcomeTraps, Stuck as OutcomeStuck}
use Rattle.wb_plain.specs.Follows.{IsStraight, store_of, Keeps, step_of, is_step}
use Rattle.wb_control.specs.Piles.{Label}
use Rattle.wb_control.specs.Changes.{Run, Change, Leads, Returns, Fails, Fits, words_in, results_of, at_place, IsTooFull, Comes}
use Rattle.wb_control.specs.Steps.{controlled}
use Rattle.wb_control.specs.Stands.{AllNested, AllLead, Open, shown, Stands}
use Rattle.wb_control.specs.Advances.{is_control, is_constant, in_state, flow_of, Straightens, is_made, Answers, HasStep}
use Rattle.wb_control.specs.declared.run.Flow.{Flow}
use Rattle.wb_control.specs.declared.run.Flow.TheVariants.{Settles as FlowSettles, Goes as FlowGoes, Moves as FlowMoves, Full as FlowFull, Finishes as FlowFinishes, Traps as FlowTraps, Stuck as FlowStuck}
use Rattle.wb_control.proofs.Levels.{at_func, read, goes_on}
use Rattle.wb_control.proofs.Leaving.{IsStep}
use Rattle.wb_control.proofs.Branching.{shaped}
use Rattle.wb_control.proofs.Controls.{IsControl, control_step, moved_stands}
use Rattle.wb_control.proofs.Counting.{words_least}
use Rattle.wb_control.proofs.Kept.{LeadsWith, leads_with}

none_some : {A : Type 0} (x : A) → None ≡ Some x → ⊥
none_some x e = cc

-- ---- instructions

pub controls : (i : Instr) → is_control i ≡ true → IsControl i
controls (Block t) h = tt
controls (Loop t) h = tt
controls (If t) h = tt
controls Else h = tt
controls End h = tt
controls (Br l) h = tt
controls (BrIf l) h = tt
controls (BrTable ls l) h = tt
controls Return h = tt
controls (Call x) h = tt
controls _ h = cc

pub is_straight : (i : Instr) → is_control i ≡ false → IsStraight i
is_straight (Br l) h = cc
is_straight (BrIf l) h = cc
is_straight (BrTable ls l) h = cc
is_straight Return h = cc
is_straight (Call x) h = cc
is_straight _ h = tt

simple : (i : Instr) → is_control i ≡ false → (ks : List Level) → put_instr i ks ≡ put (Plain i) ks
simple (Block t) h ks = cc
simple (Loop t) h ks = cc
simple (If t) h ks = cc
simple Else h ks = cc
simple End h ks = cc
simple _ h ks = refl

unsettled : (ws : List Word) (k : Code) (i : Instr) → is_constant i ≡ false → settle ws (Then (Plain i) k) ≡ (ws, Then (Plain i) k)
unsettled ws k (I32Const z) h = cc
unsettled ws k (I64Const z) h = cc
unsettled ws k _ h = refl

-- ---- control instructions

too_full : (m : Module) (room : ℕ) (r : Run) (move : Move) (ch : Change) (t : TheStore) → IsStep m r move ch → LeadsWith t ch → IsTooFull room ch → (d : Config) × (move ≡ Goes d) × (room < words_of d) × (d.store ≡ t)
too_full m room r move (Leads q) t s k h = let w = words_least m q s.0 s.2 in (s.0, s.1, omega (arith, w, h), ap (λ (d : Config). d.store) s.2.is ∙ k)
too_full m room r move (Returns ws) t s k h = absurd h
too_full m room r move Fails t s k h = absurd h

-- the step leads to a configuration for which the run stands that is left
abbrev LeadsTo : Module → Move → Run → Type 0
LeadsTo m move new = (d : Config) × (move ≡ Goes d) × Stands m new d

-- the step of the definition is this one
abbrev pub IsMove : Module → Move → Flow → (old new : Run) → Type 0
IsMove m move FlowSettles old new = ⊥
IsMove m move FlowGoes old new = LeadsTo m move new
IsMove m move FlowMoves old new = LeadsTo m move new
IsMove m move FlowFull old new = (d : Config) × (move ≡ Goes d) × (old.state.operands.room < words_of d) × (d.store ≡ store_of new.state)
IsMove m move FlowFinishes old new = move ≡ Finishes (results_of new.result) (store_of new.state)
IsMove m move (FlowTraps k) old new = move ≡ Traps (kind_of k) (store_of new.state)
IsMove m move FlowStuck old new = (move ≡ NoRule) × SameStore old.state new.state

pub same_store : (old new : State) → SameStore old new → store_of old ≡ store_of new
same_store old new h = λ i. record { memory = sym h.0 i; globals = sym h.1 i }

came : (m : Module) (move : Move) (flow : Flow) (ch : Change) (old new : Run) → IsStep m old move ch → LeadsWith (store_of old.state) ch → Comes flow ch old new → IsMove m move flow old new
came m move FlowSettles ch old new s k h = absurd h
came m move FlowGoes ch old new s k h = subst (IsStep m old move) h.0 s
came m move FlowMoves ch old new s k h = subst (IsStep m old move) h.0 s
came m move FlowFull ch old new s k h =
    let f = too_full m old.state.operands.room old move ch (store_of old.state) s k h.0 in
    (f.0, f.1, f.2, f.3 ∙ same_store old.state new.state h.1)
came m move FlowFinishes ch old new s k h = subst (IsStep m old move) h.0 s ∙ ap (Finishes (results_of new.result)) (same_store old.state new.state h.1)
came m move (FlowTraps x) ch old new s k h = absurd h
came m move FlowStuck ch old new s k h = (subst (IsStep m old move) h.0 s, h.1)

pub control_moves : (m : Module) (js : List (List Jump)) (room next : ℕ) (c : Config) (flow : Flow) (f : Func) (i : Instr) (old new : Run) → next ≡ old.place.at + 1 → AllNested m → AllLead m js → slice_get m.funcs old.place.func ≡ Some f → slice_get f.body old.place.at ≡ Some i → is_control i ≡ true → Stands m old c → Comes flow (controlled m js next old i) old new → IsMove m (machine_step m room c) flow old new
control_moves m js room next c flow f i old new e nests leads named there h s k =
    let n : next ≡ suc old.place.at = e ∙ add-one old.place.at in
    let step = control_step m js room old c f i nests leads named there (controls i h) s in
    came m (machine_step m room c) flow (controlled m js next old i) old new (subst (λ x. IsStep m old (machine_step m room c) (controlled m js x old i)) (sym n) step) (leads_with m js next old i) k

-- ---- other instructions

-- what is known at an instruction that is no control instruction and no constant
record IsStraightAt (m : Module) (room : ℕ) (r : Run) (c : Config) (f : Func) (i : Instr) : Type 0 where
  rest : Code
  labels : List Opened
  own : List Label
  others : List Label
  tail : List Word
  callers : List Frame
  step : machine_step m room c ≡ step_of m room (shaped r labels callers r.state.operands.above (Then (Plain i) rest)) rest i r.state
  goes : (s : State) → s.operands.below ≡ r.state.operands.below → s.locals.outer ≡ r.state.locals.outer → Stands m (at_place (in_state r s) (suc r.place.at)) (shown (at_place (in_state r s) (suc r.place.at)) rest labels callers)

straight_at : (m : Module) (room : ℕ) (r : Run) (c : Config) (f : Func) (i : Instr) → slice_get m.funcs r.place.func ≡ Some f → slice_get f.body r.place.at ≡ Some i
    → is_control i ≡ false → is_constant i ≡ false → Stands m r c → IsStraightAt m room r c f i
straight_at m room r c f i named there h k s =
    let u = r.state.operands.below in
    let ws = r.state.operands.above in
    let g = goes_on f.body r.place.at i s.own s.code s.labels u s.tail (simple i h) (read f.body r.place.at i s.own s.code s.labels u s.tail there (at_func m r.place f s.own s.code s.labels u s.tail named s.inside)) in
    let x : Code = Then (Plain i) g.rest in
    let shape : c ≡ shown r x s.labels s.callers = s.is ∙ ap (λ y. shown r y s.labels s.callers) g.is in
    let F : List Word × Code → Move = λ p. step_at m room (shaped r s.labels s.callers p.0 p.1) p.1 in
    record {
      rest = g.rest;
      labels = s.labels;
      own = s.own;
      others = s.rest;
      tail = s.tail;
      callers = s.callers;
      step = ap (machine_step m room) shape ∙ ap F (unsettled ws g.rest i k);
      goes = λ t b o. moved_stands m r f t s.own s.rest g.rest s.labels s.tail s.callers named b o s.split s.mark s.inside.bottom s.waits g.next;
    }

pub straight_moves : (m : Module) (room next : ℕ) (c : Config) (flow : Flow) (f : Func) (i : Instr) (old new : Run) → next ≡ old.place.at + 1
    → height_of old.state.operands ≤ old.state.operands.most → slice_get m.funcs old.place.func ≡ Some f → slice_get f.body old.place.at ≡ Some i → is_control i ≡ false
    → is_constant i ≡ false → Stands m old c → Straightens flow room i next old new → IsMove m (machine_step m room c) flow old new
straight_moves m room next c FlowSettles f i old new e l named there h k s st = absurd st
straight_moves m room next c FlowGoes f i old new e l named there h k s st =
    let a = straight_at m room old c f i named there h k s in
    let n : next ≡ suc old.place.at = e ∙ add-one old.place.at in
    let d = shaped old a.labels a.callers old.state.operands.above (Then (Plain i) a.rest) in
    let q : Run = at_place (in_state old new.state) (suc old.place.at) in
    let same : q ≡ new = sym (st.0 ∙ ap (at_place (in_state old new.state)) n) in
    let stands = a.goes new.state st.2.below st.2.outer in
    (shown q a.rest a.labels a.callers, a.step ∙ st.3 m d a.rest, subst (λ r. Stands m r (shown q a.rest a.labels a.callers)) same stands)
straight_moves m room next c FlowMoves f i old new e l named there h k s st = absurd st
straight_moves m room next c FlowFull f i old new e l named there h k s st =
    let a = straight_at m room old c f i named there h k s in
    let d = shaped old a.labels a.callers old.state.operands.above (Then (Plain i) a.rest) in
    let o = st.0 m d a.rest in
    let q : Run = at_place (in_state old o.0) (suc old.place.at) in
    let w = words_least m q (shown q a.rest a.labels a.callers) (a.goes o.0 o.2.below o.2.outer) in
    (shown q a.rest a.labels a.callers, a.step ∙ o.1, omega (arith, w, o.3), sym (same_store old.state o.0 (o.4 l)) ∙ same_store old.state new.state st.1)
straight_moves m room next c FlowFinishes f i old new e l named there h k s st = absurd st
straight_moves m room next c (FlowTraps x) f i old new e l named there h k s st =
    let a = straight_at m room old c f i named there h k s in
    a.step ∙ st.0 m (shaped old a.labels a.callers old.state.operands.above (Then (Plain i) a.rest)) a.rest ∙ ap (Traps (kind_of x)) (same_store old.state new.state st.1)
straight_moves m room next c FlowStuck f i old new e l named there h k s st =
    let a = straight_at m room old c f i named there h k s in
    (a.step ∙ st.0 m (shaped old a.labels a.callers old.state.operands.above (Then (Plain i) a.rest)) a.rest, st.1)

-- ---- a run that stands for a configuration has an instruction at its place

no_levels : (b : List Instr) (ls : List Level) (own : List Label) (code : Code) (labels : List Opened) (under tail : List Word) → ls ≡ [] → Open b ls own code labels under tail → ⊥
no_levels b [] own code labels under tail e h = h
no_levels b (l ∷ ls) own code labels under tail e h = cc

past_end : (b : List Instr) (at : ℕ) → slice_get b at ≡ None → levels (drop at b) ≡ Some []
past_end [] zero e = refl
past_end [] (suc n) e = refl
past_end (i ∷ b) zero e = absurd (none_some i (sym e))
past_end (i ∷ b) (suc n) e = past_end b n e

some_same : {A : Type 0} (x y : A) → Some x ≡ Some y → x ≡ y
some_same x y e = cc

pub has_func : (m : Module) (r : Run) (c : Config) → slice_get m.funcs r.place.func ≡ None → Stands m r c → ⊥
has_func m r c e s = none_some s.inside.func (sym e ∙ s.inside.named)

pub has_instr : (m : Module) (r : Run) (c : Config) (f : Func) → slice_get m.funcs r.place.func ≡ Some f → slice_get f.body r.place.at ≡ None → Stands m r c → ⊥
has_instr m r c f named none s =
    let u = r.state.operands.below in
    let a = at_func m r.place f s.own s.code s.labels u s.tail named s.inside in
    no_levels f.body a.there s.own s.code s.labels u s.tail (some_same a.there [] (sym a.here ∙ past_end f.body r.place.at none)) a.opens

-- more words than there may be, beside what is kept
pub over_words : (room : ℕ) (r : Run) (s : State) → Fits r → Keeps room r.state s → IsOver s.operands → r.state.operands.room < words_in (in_state r s)
over_words room r s f k o = let l = k.outer in let a = ap length k.outer in omega (arith, f.words, k.most, k.locals, a, o)

-- ---- an instruction behind which a run does not go on

pub stops : (room : ℕ) (o : Outcome) (i : Instr) (next : ℕ) (r : Run) (s : State) → (o ≡ OutcomeGoes → ⊥) → EffectsFollow → is_control i ≡ false → Fits r
    → Ends o (effect room i r.state) r.state s → Straightens (flow_of o) room i next r (in_state r s)
stops room OutcomeGoes i next r s not follows h f e = absurd (not refl)
stops room OutcomeFull i next r s not follows h f e =
    ((λ m d rest. let g = (follows m room d rest i OutcomeFull r.state s (is_straight i h) e).0 in (g.0, g.1, g.3, over_words room r g.0 f g.3 g.2, g.4)), e.1, (e.2, refl, refl))
stops room (OutcomeTraps k) i next r s not follows h f e = ((λ m d rest. (follows m room d rest i (OutcomeTraps k) r.state s (is_straight i h) e).0), e.1, (e.2, refl, refl))
stops room OutcomeStuck i next r s not follows h f e = ((λ m d rest. (follows m room d rest i OutcomeStuck r.state s (is_straight i h) e).0), e.1, (e.2, refl, refl))

-- ---- whether a step follows

answered : (room : ℕ) (flow : Flow) (ch : Change) (old new : Run) → Comes flow ch old new → Answers ch (is_made flow)
answered room FlowSettles ch old new h = absurd h
answered room FlowGoes ch old new h = subst (λ x. Answers x true) (sym h.0) refl
answered room FlowMoves ch old new h = subst (λ x. Answers x true) (sym h.0) refl
answered room FlowFull (Leads r) old new h = refl
answered room FlowFull (Returns ws) old new h = absurd h.0
answered room FlowFull Fails old new h = absurd h.0
answered room FlowFinishes ch old new h = subst (λ x. Answers x true) (sym h.0) refl
answered room (FlowTraps k) ch old new h = absurd h
answered room FlowStuck ch old new h = subst (λ x. Answers x false) (sym h.0) refl

has_change : (m : Module) (room : ℕ) (r : Run) (c : Config) (ch : Change) (b : Bool) → IsStep m r (machine_step m room c) ch → Answers ch b → HasStep m room c b
has_change m room r c (Leads q) b s h = subst (HasStep m room c) (sym h) (ap (λ v. before_step v c) s.1)
has_change m room r c (Returns ws) b s h = subst (HasStep m room c) (sym h) (ap (λ v. before_step v c) s)
has_change m room r c Fails b s h = subst (HasStep m room c) (sym h) (ap (λ v. before_step v c) s)

pub has_control : (m : Module) (js : List (List Jump)) (room next : ℕ) (c : Config) (flow : Flow) (f : Func) (i : Instr) (r new : Run) → next ≡ r.place.at + 1 → AllNested m → AllLead m js → slice_get m.funcs r.place.func ≡ Some f → slice_get f.body r.place.at ≡ Some i → is_control i ≡ true → Stands m r c → Comes flow (controlled m js next r i) r new → HasStep m room c (is_made flow)
has_control m js room next c flow f i r new e nests leads named there h s k =
    let n : next ≡ suc r.place.at = e ∙ add-one r.place.at in
    let step = control_step m js room r c f i nests leads named there (controls i h) s in
    has_change m room r c (controlled m js next r i) (is_made flow) (subst (λ x. IsStep m r (machine_step m room c) (controlled m js x r i)) (sym n) step) (answered room flow (controlled m js next r i) r new k)

has_move : (m : Module) (room : ℕ) (c : Config) (move : Move) (b : Bool) → machine_step m room c ≡ move → b ≡ is_step move → HasStep m room c b
has_move m room c (Goes d) b e h = subst (HasStep m room c) (sym h) (ap (λ v. before_step v c) e)
has_move m room c (Finishes ws t) b e h = subst (HasStep m room c) (sym h) (ap (λ v. before_step v c) e)
has_move m room c (Traps k t) b e h = subst (HasStep m room c) (sym h) (ap (λ v. before_step v c) e)
has_move m room c NoRule b e h = subst (HasStep m room c) (sym h) (ap (λ v. before_step v c) e)

pub has_straight : (m : Module) (room : ℕ) (c : Config) (f : Func) (i : Instr) (r : Run) (b : Bool) → slice_get m.funcs r.place.func ≡ Some f → slice_get f.body r.place.at ≡ Some i
    → is_control i ≡ false → is_constant i ≡ false → Stands m r c → ((d : Config) (rest : Code) → b ≡ is_step (step_of m room d rest i r.state)) → HasStep m room c b
has_straight m room c f i r b named there h k s st =
    let a = straight_at m room r c f i named there h k s in
    let d = shaped r a.labels a.callers r.state.operands.above (Then (Plain i) a.rest) in
    has_move m room c (step_of m room d a.rest i r.state) b a.step (st d a.rest)

pub made : (flow : Flow) (room : ℕ) (i : Instr) (next : ℕ) (r new : Run) (m : Module) (d : Config) (rest : Code) → Straightens flow room i next r new
    → is_made flow ≡ is_step (step_of m room d rest i r.state)
made FlowSettles room i next r new m d rest h = absurd h
made FlowGoes room i next r new m d rest h = sym (ap is_step (h.3 m d rest))
made FlowMoves room i next r new m d rest h = absurd h
made FlowFull room i next r new m d rest h = sym (ap is_step (h.0 m d rest).1)
made FlowFinishes room i next r new m d rest h = absurd h
made (FlowTraps k) room i next r new m d rest h = sym (ap is_step (h.0 m d rest))
made FlowStuck room i next r new m d rest h = sym (ap is_step (h.0 m d rest))
