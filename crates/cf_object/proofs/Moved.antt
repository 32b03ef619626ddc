-- Runs of the object machine are those of the machine that steps.
use Rattle.std.proofs.Common.{◌≡◌, ℕ, zero, suc, ◌+◌, refl, ap, ◌∙◌, arith}
use Rattle.std.specs.Prelude.{max}
use Rattle.cf_base.specs.declared.outcome.Outcome.{Outcome}
use Rattle.cf_simulation.specs.Simulation.{Goes, Ends, Lost, Reach, At, Over, Dead, reach}
use Rattle.cf_object.specs.Machine.{State, Next, After, Ended, Running, Stuck, step, run}
use Rattle.cf_object.specs.Machine as object
use Rattle.cf_object.specs.Moves.{as_move, object_step, reached, most_open}
use Rattle.cf_object.specs.Laws.{RunsReach, RunsGoOn}
use Rattle.cf_object.proofs.EndedStays.{after}

module _ (region : ℕ) where
  -- what the machine reaches after a step that is known
  abbrev reach_after : ℕ → Next → Reach State Outcome
  reach_after n m = elim (as_move m) [ Goes t ↦ reach (object_step region) n t | Ends o ↦ Over o | Lost ↦ Dead ]

  -- the most calls that are open after it
  abbrev open_after : ℕ → Next → ℕ
  open_after n m = elim m [ object.Goes t ↦ max t.calls_open (most_open region n t) | object.Ends o ↦ 0 | object.Lost ↦ 0 ]

  reaches_after : (n : ℕ) (s : State) (peak : ℕ) → ((t : State) (p : ℕ) → reach (object_step region) n t ≡ reached region (run region n t p))
      → (m : Next) → reach_after n m ≡ reached region (after region (run region n) s peak m)
  reaches_after n s peak ih (object.Goes t) = ih t (max peak t.calls_open)
  reaches_after n s peak ih (object.Ends o) = refl
  reaches_after n s peak ih object.Lost = refl

  reaches : (n : ℕ) (s : State) (peak : ℕ) → reach (object_step region) n s ≡ reached region (run region n s peak)
  reaches zero s peak = refl
  reaches (suc n) s peak = reaches_after n s peak (λ t p. reaches n t p) (step region s)

  at_same : (s t : State) → ◌≡◌ {A = Reach State Outcome} (At s) (At t) → s ≡ t
  at_same s t e = cc

  peaks : (peak a b : ℕ) → max (max peak a) b ≡ max peak (max a b)
  peaks peak a b = omega arith

  goes_on_after : (k j : ℕ) (s : State) (peak : ℕ) (t : State) → ((u : State) (p : ℕ) → reach (object_step region) k u ≡ At t → run region (k + j) u p ≡ run region j t (max p (most_open region k u)))
      → (m : Next) → reach_after k m ≡ At t → after region (run region (k + j)) s peak m ≡ run region j t (max peak (open_after k m))
  goes_on_after k j s peak t ih (object.Goes u) e = ih u (max peak u.calls_open) e ∙ ap (run region j t) (peaks peak u.calls_open (most_open region k u))
  goes_on_after k j s peak t ih (object.Ends o) e = (let d : ◌≡◌ {A = Reach State Outcome} (Over o) (At t) = e in cc)
  goes_on_after k j s peak t ih object.Lost e = (let d : ◌≡◌ {A = Reach State Outcome} Dead (At t) = e in cc)

  goes_on : (k j : ℕ) (s : State) (peak : ℕ) (t : State) → reach (object_step region) k s ≡ At t → run region (k + j) s peak ≡ run region j t (max peak (most_open region k s))
  goes_on zero j s peak t e =
      let p : 0 + j ≡ j = omega arith in
      let q : peak ≡ max peak 0 = omega arith in
      ap (λ n. run region n s peak) p ∙ ap (λ u. run region j u peak) (at_same s t e) ∙ ap (run region j t) q
  goes_on (suc k) j s peak t e =
      let p : suc k + j ≡ suc (k + j) = omega arith in
      ap (λ n. run region n s peak) p ∙ goes_on_after k j s peak t (λ u p h. goes_on k j u p t h) (step region s) e

pub runs_reach_lem : RunsReach
runs_reach_lem region n s peak = reaches region n s peak

pub runs_go_on_lem : RunsGoOn
runs_go_on_lem region k j s t peak e = goes_on region k j s peak t e
