-- More steps change nothing of a run that has ended.
use Rattle.std.proofs.Common.{◌≡◌, ℕ, zero, suc, ◌≤◌, sym, subst, arith}
use Rattle.std.specs.Prelude.{max}
use Rattle.cf_object.specs.Machine.{State, Next, Goes, Ends, Lost, After, Ended, Stuck, run, step, HasEnded}
use Rattle.cf_object.specs.Laws.{EndedStays}

module _ (region : ℕ) where
  -- what a run comes to after this move
  abbrev pub after : (State → ℕ → After region) → State → ℕ → Next → After region
  after go s peak m = elim m [ Goes t ↦ go t (max peak t.calls_open) | Ends o ↦ Ended o s.calls peak | Lost ↦ Stuck ]

  move_stays : (go far : State → ℕ → After region) (e : After region) → ((t : State) (p : ℕ) → go t p ≡ e → far t p ≡ e) → (s : State) (peak : ℕ) (m : Next) → after go s peak m ≡ e → after far s peak m ≡ e
  move_stays go far e h s peak (Goes t) p = h t (max peak t.calls_open) p
  move_stays go far e h s peak (Ends o) p = p
  move_stays go far e h s peak Lost p = p

  stays : (n more : ℕ) (e : After region) → HasEnded region e → n ≤ more → (s : State) (peak : ℕ) → run region n s peak ≡ e → run region more s peak ≡ e
  stays zero more e over le s peak p = absurd (subst (HasEnded region) (sym p) over)
  stays (suc n) zero e over le s peak p = absurd (omega arith)
  stays (suc n) (suc more) e over le s peak p =
      move_stays (run region n) (run region more) e (stays n more e over (omega arith)) s peak (step region s) p

pub ended_stays_lem : EndedStays
ended_stays_lem region n more s peak e p over le = stays region n more e over le s peak p
