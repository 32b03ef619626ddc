-- Steps of a run of the definition.
use Rattle.std.proofs.Common.{◌≡◌, ℕ, zero, suc, ◌<◌, ◌≤◌, ap, ◌∙◌}
use Rattle.std.specs.Prelude.{true, false}
use Rattle.std.proofs.lemmas.Bool.{lt-ltb, le-ltb}
use Rattle.wb_syntax.specs.declared.syntax.Module.{Module}
use Rattle.wb_syntax.specs.Execute.{TheStore, Config, Move, Goes, Finishes, Traps, NoRule, machine_step}
use Rattle.wb_syntax.specs.Runs.{RunEnd, StackFull, Stuck, words_of, after_step, before_step, runs}
use Rattle.wb_plain.specs.Effects.{kind_of}
use Rattle.wb_plain.specs.Follows.{store_of}
use Rattle.wb_control.specs.Changes.{Run, results_of}
use Rattle.wb_control.specs.Advances.{Advances}
use Rattle.wb_control.specs.declared.run.Flow.{Flow}
use Rattle.wb_control.specs.declared.run.Flow.TheVariants.{Settles as FlowSettles, Goes as FlowGoes, Moves as FlowMoves, Full as FlowFull, Finishes as FlowFinishes, Traps as FlowTraps, Stuck as FlowStuck}
use Rattle.wb_control.proofs.Advanced.{IsMove, same_store}

-- ---- words are looked at first

pub full_at : (m : Module) (room words n : ℕ) (c : Config) → words < words_of c → runs m room words n c ≡ StackFull c.store
full_at m room words zero c h = ap (λ b. elim b as (λ _. RunEnd) [ true ↦ StackFull c.store | false ↦ before_step (machine_step m room c) c ]) (lt-ltb words (words_of c) h)
full_at m room words (suc n) c h = ap (λ b. elim b as (λ _. RunEnd) [ true ↦ StackFull c.store | false ↦ after_step (machine_step m room c) c (runs m room words n) ]) (lt-ltb words (words_of c) h)

step_at : (m : Module) (room words n : ℕ) (c : Config) (move : Move) → words_of c ≤ words → machine_step m room c ≡ move → runs m room words (suc n) c ≡ after_step move c (runs m room words n)
step_at m room words n c move h e =
    ap (λ b. elim b as (λ _. RunEnd) [ true ↦ StackFull c.store | false ↦ after_step (machine_step m room c) c (runs m room words n) ]) (le-ltb words (words_of c) h)
    ∙ ap (λ v. after_step v c (runs m room words n)) e

pub stop_at : (m : Module) (room words : ℕ) (c : Config) → words_of c ≤ words → runs m room words 0 c ≡ before_step (machine_step m room c) c
stop_at m room words c h = ap (λ b. elim b as (λ _. RunEnd) [ true ↦ StackFull c.store | false ↦ before_step (machine_step m room c) c ]) (le-ltb words (words_of c) h)

-- ---- a step of a run

pub moved : (m : Module) (room : ℕ) (c : Config) (flow : Flow) (old new : Run) → words_of c ≤ old.state.operands.room → c.store ≡ store_of old.state
    → IsMove m (machine_step m room c) flow old new → Advances m room c flow old new
moved m room c FlowSettles old new h k s = absurd s
moved m room c FlowGoes old new h k s = (s.0, s.2, λ n. step_at m room old.state.operands.room n c (Goes s.0) h s.1)
moved m room c FlowMoves old new h k s = (s.0, s.2, λ n. step_at m room old.state.operands.room n c (Goes s.0) h s.1)
moved m room c FlowFull old new h k s = λ n.
    let words = old.state.operands.room in
    step_at m room words n c (Goes s.0) h s.1 ∙ full_at m room words n s.0 s.2 ∙ ap (λ (x : TheStore). StackFull x) s.3
moved m room c FlowFinishes old new h k s = λ n. step_at m room old.state.operands.room n c (Finishes (results_of new.result) (store_of new.state)) h s
moved m room c (FlowTraps x) old new h k s = λ n. step_at m room old.state.operands.room n c (Traps (kind_of x) (store_of new.state)) h s
moved m room c FlowStuck old new h k s = λ n.
    step_at m room old.state.operands.room n c NoRule h s.0 ∙ ap (λ (x : TheStore). Stuck x) (k ∙ same_store old.state new.state s.1)
