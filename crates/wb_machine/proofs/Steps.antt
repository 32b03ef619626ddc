-- A run, step by step.
use Rattle.std.proofs.Common.{◌≡◌, ℕ, suc, ◌-◌, ◌/◌, ◌<◌, List, length, arith, refl, sym, ap, subst, ◌∙◌}
use Rattle.std.specs.Prelude.{true, false, Option, Some, None, ℤ}
use Rattle.wb_syntax.specs.declared.syntax.Module.{Module}
use Rattle.wb_syntax.specs.Syntax.{Code}
use Rattle.wb_syntax.specs.Nesting.{nested}
use Rattle.wb_syntax.specs.Execute.{TheStore, Config, page, machine_step}
use Rattle.wb_syntax.specs.Runs.{RunEnd, Trapped, Running, StackFull, Stuck, NoMain, Main, words_of, returned, before_step, runs, first_config, main_of, run_main}
use Rattle.wb_plain.specs.Effects.{State, SameStore, kind_of}
use Rattle.wb_plain.specs.declared.outcome.TrapKind.{TrapKind as TheKind}
use Rattle.wb_plain.specs.declared.outcome.TrapKind.TheVariants.{Unreachable as OfUnreachable, DivideByZero as OfDivideByZero, Overflow as OfOverflow, OutOfBounds as OfOutOfBounds}
use Rattle.wb_plain.specs.Follows.{store_of, pages_of, length_of}
use Rattle.wb_control.specs.declared.run.Run.{Run}
use Rattle.wb_control.specs.Changes.{SameRooms, results_of}
use Rattle.wb_control.specs.Stands.{Stands}
use Rattle.wb_control.specs.Advances.{Settles, HasStep, StepsTo, Advances, runs_from}
use Rattle.wb_control.specs.declared.run.Flow.{Flow}
use Rattle.wb_control.specs.declared.run.Flow.TheVariants.{Settles as FlowSettles, Goes as FlowGoes, Moves as FlowMoves, Full as FlowFull, Finishes as FlowFinishes, Traps as FlowTraps, Stuck as FlowStuck}
use Rattle.wb_control.proofs.Advanced.{same_store}
use Rattle.wb_control.proofs.Running.{full_at, stop_at}
use Rattle.wb_machine.specs.Ends.{trap_of, EndsAs}
use Rattle.wb_machine.specs.Steps.{Closes}
use Rattle.wb_machine.specs.declared.ends.MachineEnd.{MachineEnd}
use Rattle.wb_machine.specs.declared.ends.MachineEnd.TheVariants.{Trap as DoesTrap, StepLimit as IsLimited, StackFull as IsFull, Stuck as IsStuck, NoMain as HasNoMain}

-- ---- no step is left

-- the store of the configuration for which a run stands, in a state that has kept it
kept_store : (m : Module) (c : Config) (r : Run) (new : State) → Stands m r c → SameStore r.state new → store_of new ≡ c.store
kept_store m c r new s kept = sym (same_store r.state new kept) ∙ sym (ap (λ (d : Config). d.store) s.is)

pub full_stop : (start : TheStore) (m : Module) (room : ℕ) (c : Config) (old mid : Run) → Stands m old c → SameStore old.state mid.state → Settles m c false old mid
    → EndsAs start (runs m room old.state.operands.room 0 c) IsFull (store_of mid.state)
full_stop start m room c old mid s kept h =
    subst (λ r. EndsAs start r IsFull (store_of mid.state)) (sym (full_at m room old.state.operands.room 0 c h)) (refl, kept_store m c old mid.state s kept)

stopped : (m : Module) (room : ℕ) (c : Config) (old mid : Run) (end : RunEnd) → Settles m c true old mid → before_step (machine_step m room c) c ≡ end → runs m room old.state.operands.room 0 c ≡ end
stopped m room c old mid end h e = stop_at m room old.state.operands.room c h.1 ∙ e

pub limited : (start : TheStore) (m : Module) (room : ℕ) (c : Config) (old mid new : Run) → SameStore mid.state new.state → Settles m c true old mid → HasStep m room c true
    → EndsAs start (runs m room old.state.operands.room 0 c) IsLimited (store_of new.state)
limited start m room c old mid new kept h e =
    subst (λ r. EndsAs start r IsLimited (store_of new.state)) (sym (stopped m room c old mid (Running c) h e)) (refl, kept_store m c mid new.state h.0 kept)

pub stuck_stop : (start : TheStore) (m : Module) (room : ℕ) (c : Config) (old mid new : Run) → SameStore mid.state new.state → Settles m c true old mid → HasStep m room c false
    → EndsAs start (runs m room old.state.operands.room 0 c) IsStuck (store_of new.state)
stuck_stop start m room c old mid new kept h e =
    subst (λ r. EndsAs start r IsStuck (store_of new.state)) (sym (stopped m room c old mid (Stuck c.store) h e)) (refl, kept_store m c mid new.state h.0 kept)

-- ---- a run

-- the pages of memories of one length
pub same_pages : (a b : Option (List ℕ)) → length_of a ≡ length_of b → pages_of a ≡ pages_of b
same_pages None None e = refl
same_pages None (Some b) e = cc
same_pages (Some a) None e = cc
same_pages (Some a) (Some b) e = let h : length a ≡ length b = cc in ap (λ n. n / page) h

-- a run from which a run of the definition goes on
pub record GoesOn (m : Module) (room : ℕ) (first : Run) (limit left : ℕ) (c : Config) (r : Run) : Type 0 where
  pub config : Config
  pub stands : Stands m r config
  pub rest : runs m room first.state.operands.room left config ≡ runs m room first.state.operands.room limit c

-- the rest of a run with the words that it had at first
at_first : (m : Module) (room : ℕ) (first r : Run) (n : ℕ) (c : Config) → SameRooms first r → runs m room r.state.operands.room n c ≡ runs m room first.state.operands.room n c
at_first m room first r n c same = ap (λ w. runs m room w n c) same.0.0

pub settled_on : (m : Module) (room : ℕ) (first r new : Run) (limit left : ℕ) (c : Config) (g : GoesOn m room first limit left c r) → Stands m new g.config → GoesOn m room first limit left c new
settled_on m room first r new limit left c g s = record { config = g.config; stands = s; rest = g.rest }

pub went_on : (m : Module) (room : ℕ) (first r new : Run) (limit left : ℕ) (c : Config) → 0 < left → SameRooms first r → (g : GoesOn m room first limit left c r)
    → StepsTo m room g.config r new → GoesOn m room first limit (left - 1) c new
went_on m room first r new limit left c l same g s =
    let n = left - 1 in
    let e : left ≡ suc n = omega arith in
    let d = g.config in
    record {
      config = s.0;
      stands = s.1;
      rest = sym (at_first m room first r n s.0 same) ∙ sym (s.2 n) ∙ at_first m room first r (suc n) d same ∙ ap (λ k. runs m room first.state.operands.room k d) (sym e) ∙ g.rest;
    }

ended_on : (start : TheStore) (m : Module) (room : ℕ) (first r : Run) (limit left : ℕ) (c : Config) (end : RunEnd) (e : MachineEnd) (s : TheStore) → 0 < left → SameRooms first r
    → (g : GoesOn m room first limit left c r) → ((n : ℕ) → runs_from m room r (suc n) g.config ≡ end) → EndsAs start end e s
    → EndsAs start (runs m room first.state.operands.room limit c) e s
ended_on start m room first r limit left c end e s l same g h x =
    let n = left - 1 in
    let k : left ≡ suc n = omega arith in
    let d = g.config in
    let all : runs m room first.state.operands.room limit c ≡ end =
    sym g.rest ∙ ap (λ j. runs m room first.state.operands.room j d) k ∙ sym (at_first m room first r (suc n) d same) ∙ h n in
    subst (λ v. EndsAs start v e s) (sym all) x

-- the end by a trap
trap_back : (k : TheKind) → trap_of (kind_of k) ≡ k
trap_back OfUnreachable = refl
trap_back OfDivideByZero = refl
trap_back OfOverflow = refl
trap_back OfOutOfBounds = refl

pub trapped_as : (start : TheStore) (k : TheKind) (s : TheStore) → EndsAs start (Trapped (kind_of k) s) (DoesTrap k) s
trapped_as start k s = (sym (ap DoesTrap (trap_back k)), refl)

pub closed_on : (start : TheStore) (m : Module) (room : ℕ) (first r new : Run) (limit left : ℕ) (c : Config) (flow : Flow) (e : MachineEnd) → 0 < left → SameRooms first r
    → (g : GoesOn m room first limit left c r) → (flow ≡ FlowSettles → ⊥) → (flow ≡ FlowGoes → ⊥) → (flow ≡ FlowMoves → ⊥) → Advances m room g.config flow r new
    → Closes start flow (results_of new.result) (store_of new.state) e → EndsAs start (runs m room first.state.operands.room limit c) e (store_of new.state)
closed_on start m room first r new limit left c FlowSettles e l same g settles goes moves a x = absurd (settles refl)
closed_on start m room first r new limit left c FlowGoes e l same g settles goes moves a x = absurd (goes refl)
closed_on start m room first r new limit left c FlowMoves e l same g settles goes moves a x = absurd (moves refl)
closed_on start m room first r new limit left c FlowFull e l same g settles goes moves a x =
    ended_on start m room first r limit left c (StackFull (store_of new.state)) e (store_of new.state) l same g a x
closed_on start m room first r new limit left c FlowFinishes e l same g settles goes moves a x =
    ended_on start m room first r limit left c (returned (results_of new.result) (store_of new.state)) e (store_of new.state) l same g a x
closed_on start m room first r new limit left c (FlowTraps k) e l same g settles goes moves a x =
    ended_on start m room first r limit left c (Trapped (kind_of k) (store_of new.state)) e (store_of new.state) l same g a x
closed_on start m room first r new limit left c FlowStuck e l same g settles goes moves a x =
    ended_on start m room first r limit left c (Stuck (store_of new.state)) e (store_of new.state) l same g a x

pub ended_at : (start : TheStore) (m : Module) (room : ℕ) (first r new : Run) (limit left : ℕ) (c : Config) (e : MachineEnd) → left ≡ 0 → SameRooms first r
    → (g : GoesOn m room first limit left c r) → EndsAs start (runs m room r.state.operands.room 0 g.config) e (store_of new.state)
    → EndsAs start (runs m room first.state.operands.room limit c) e (store_of new.state)
ended_at start m room first r new limit left c e z same g h =
    let all : runs m room r.state.operands.room 0 g.config ≡ runs m room first.state.operands.room limit c =
    at_first m room first r 0 g.config same ∙ ap (λ j. runs m room first.state.operands.room j g.config) (sym z) ∙ g.rest in
    subst (λ x. EndsAs start x e (store_of new.state)) all h

-- ---- main

run_main_is : (m : Module) (room : ℕ) (s : TheStore) (args : List ℤ) (words n : ℕ) (main : Main) (body : Code) → main_of m ≡ Some main → nested main.func.body ≡ Some body → run_main m room s args words n ≡ runs m room words n (first_config m 0 main args s body)
run_main_is m room s args words n main body e h =
    let F : Option Main → RunEnd = λ o. elim o [
      | None ↦ NoMain
      | Some x ↦ elim (nested x.func.body) [ None ↦ Stuck s | Some b ↦ runs m room words n (first_config m room x args s b) ]
    ] in
    let G : Option Code → RunEnd = λ o. elim o [ None ↦ Stuck s | Some b ↦ runs m room words n (first_config m room main args s b) ] in
    ap F e ∙ ap G h

pub no_main : (m : Module) (room : ℕ) (s : TheStore) (args : List ℤ) (words n : ℕ) → main_of m ≡ None → EndsAs s (run_main m room s args words n) HasNoMain s
no_main m room s args words n e =
    let F : Option Main → RunEnd = λ o. elim o [
      | None ↦ NoMain
      | Some x ↦ elim (nested x.func.body) [ None ↦ Stuck s | Some b ↦ runs m room words n (first_config m room x args s b) ]
    ] in
    subst (λ r. EndsAs s r HasNoMain s) (sym (ap F e)) (refl, refl)

pub no_room : (m : Module) (room : ℕ) (s left : TheStore) (args : List ℤ) (words n : ℕ) (main : Main) (body : Code) → main_of m ≡ Some main → nested main.func.body ≡ Some body → words < words_of (first_config m 0 main args s body) → left ≡ s → EndsAs s (run_main m room s args words n) IsFull left
no_room m room s left args words n main body e h l k =
    subst (λ r. EndsAs s r IsFull left) (sym (run_main_is m room s args words n main body e h ∙ full_at m room words n (first_config m 0 main args s body) l)) (refl, k)

pub whole_run : (m : Module) (room : ℕ) (s left : TheStore) (args : List ℤ) (words n : ℕ) (main : Main) (body : Code) (end : MachineEnd) → main_of m ≡ Some main → nested main.func.body ≡ Some body → EndsAs s (runs m room words n (first_config m 0 main args s body)) end left → EndsAs s (run_main m room s args words n) end left
whole_run m room s left args words n main body end e h r = subst (λ x. EndsAs s x end left) (sym (run_main_is m room s args words n main body e h)) r

-- a run with the words before it began
pub as_begun : (start : TheStore) (m : Module) (room : ℕ) (old mid : Run) (n : ℕ) (c : Config) (e : MachineEnd) (left : TheStore) → SameRooms old mid
    → EndsAs start (runs m room mid.state.operands.room n c) e left → EndsAs start (runs m room old.state.operands.room n c) e left
as_begun start m room old mid n c e left same h = subst (λ r. EndsAs start r e left) (at_first m room old mid n c same) h
