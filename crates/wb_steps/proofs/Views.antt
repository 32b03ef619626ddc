-- One step of the machine that steps, and one of a run: what is known of it backward and forward.
use Rattle.std.proofs.Common.{◌≡◌, ◌⊎◌, inl, inr, ℕ, zero, suc, ◌≤◌, refl, ap, ◌∙◌, arith}
use Rattle.std.proofs.lemmas.Bool.Decides.{nat_tests}
use Rattle.std.specs.Prelude.{Bool, true, false, nat_lt}
use Rattle.cf_simulation.specs.Simulation.{Move, Goes, Ends, Lost, Reach, At, Over, Dead, reach}
use Rattle.wb_syntax.specs.declared.syntax.Module.{Module}
use Rattle.wb_syntax.specs.Execute.{Config, TheStore, Word, machine_step}
use Rattle.wb_syntax.specs.Execute as wasm
use Rattle.wb_syntax.specs.Runs.{RunEnd, Trapped, StackFull, returned, words_of, runs, after_step, before_step}
use Rattle.wb_steps.specs.Moves.{as_move, bounded}

pub decide : (b : Bool) → (b ≡ true) ⊎ (b ≡ false)
decide true = inl refl
decide false = inr refl

pub never : {A : Type 0} → true ≡ false → A
never e = cc

pub at_same : (c d : Config) → ◌≡◌ {A = Reach Config RunEnd} (At c) (At d) → c ≡ d
at_same c d e = cc

pub at_over : {A : Type 0} (c : Config) (e : RunEnd) → ◌≡◌ {A = Reach Config RunEnd} (At c) (Over e) → A
at_over c e h = cc

dead_at : {A : Type 0} (d : Config) → ◌≡◌ {A = Reach Config RunEnd} Dead (At d) → A
dead_at d h = cc

dead_over : {A : Type 0} (e : RunEnd) → ◌≡◌ {A = Reach Config RunEnd} Dead (Over e) → A
dead_over e h = cc

over_at : {A : Type 0} (e : RunEnd) (d : Config) → ◌≡◌ {A = Reach Config RunEnd} (Over e) (At d) → A
over_at e d h = cc

over_ends : (e f : RunEnd) → ◌≡◌ {A = Reach Config RunEnd} (Over e) (Over f) → ◌≡◌ {A = Move Config RunEnd} (Ends e) (Ends f)
over_ends e f h = cc

-- words that fit fewer fit more
pub fits_more : (few many n : ℕ) → few ≤ many → nat_lt few n ≡ false → nat_lt many n ≡ false
fits_more few many n l e = grind (arith, nat_tests, l, e)

pub fits : (most n : ℕ) → n ≤ most → nat_lt most n ≡ false
fits most n l = grind (arith, nat_tests, l)

module _ (m : Module) (room : ℕ) where
  abbrev unless_full : Bool → Config → RunEnd → RunEnd
  unless_full full c e = elim full [ true ↦ StackFull c.store | false ↦ e ]

  -- ---- a run, forward

  pub is_full : (words n : ℕ) (c : Config) → nat_lt words (words_of c) ≡ true → runs m room words n c ≡ StackFull c.store
  is_full words zero c e = ap (λ b. unless_full b c (before_step (machine_step m room c) c)) e
  is_full words (suc n) c e = ap (λ b. unless_full b c (after_step (machine_step m room c) c (runs m room words n))) e

  pub now : (words : ℕ) (c : Config) (x : wasm.Move) → nat_lt words (words_of c) ≡ false → machine_step m room c ≡ x → runs m room words 0 c ≡ before_step x c
  now words c x e f = ap (λ b. unless_full b c (before_step (machine_step m room c) c)) e ∙ ap (λ x. before_step x c) f

  pub next : (words n : ℕ) (c : Config) (x : wasm.Move) → nat_lt words (words_of c) ≡ false → machine_step m room c ≡ x
      → runs m room words (suc n) c ≡ after_step x c (runs m room words n)
  next words n c x e f = ap (λ b. unless_full b c (after_step (machine_step m room c) c (runs m room words n))) e ∙ ap (λ x. after_step x c (runs m room words n)) f

  ends_by : (n : ℕ) (words : ℕ) (c : Config) (e : RunEnd) (x : wasm.Move) → as_move x ≡ Ends e → after_step x c (runs m room words n) ≡ e
  ends_by n words c e (wasm.Goes b) h = (let f : ◌≡◌ {A = Move Config RunEnd} (Goes b) (Ends e) = h in cc)
  ends_by n words c e (wasm.Finishes ws s) h = (let f : ◌≡◌ {A = Move Config RunEnd} (Ends (returned ws s)) (Ends e) = h in cc)
  ends_by n words c e (wasm.Traps kind s) h = (let f : ◌≡◌ {A = Move Config RunEnd} (Ends (Trapped kind s)) (Ends e) = h in cc)
  ends_by n words c e wasm.NoRule h = (let f : ◌≡◌ {A = Move Config RunEnd} Lost (Ends e) = h in cc)

  pub ends_now : (words n : ℕ) (c : Config) (e : RunEnd) → nat_lt words (words_of c) ≡ false → as_move (machine_step m room c) ≡ Ends e → runs m room words (suc n) c ≡ e
  ends_now words n c e f h = next words n c (machine_step m room c) f refl ∙ ends_by n words c e (machine_step m room c) h

  -- ---- the machine that steps

  module _ (most : ℕ) where
    abbrev on : ℕ → Move Config RunEnd → Reach Config RunEnd
    on n x = elim x [ Goes c ↦ reach (bounded m room most) n c | Ends o ↦ Over o | Lost ↦ Dead ]

    abbrev bounded_by : Bool → wasm.Move → Move Config RunEnd
    bounded_by over x = elim over [ true ↦ Lost | false ↦ as_move x ]

    -- forward
    pub reach_next : (k : ℕ) (c : Config) (x : Move Config RunEnd) → nat_lt most (words_of c) ≡ false → as_move (machine_step m room c) ≡ x
        → reach (bounded m room most) (suc k) c ≡ on k x
    reach_next k c x e f = ap (λ b. on k (bounded_by b (machine_step m room c))) e ∙ ap (on k) f

    -- backward: a step on the way to a state
    pub record Stepped (k : ℕ) (c d : Config) : Type 0 where
      pub first : Config
      pub fit : nat_lt most (words_of c) ≡ false
      pub step : machine_step m room c ≡ wasm.Goes first
      pub rest : reach (bounded m room most) k first ≡ At d

    stepped_by : (k : ℕ) (c d : Config) (over : Bool) (x : wasm.Move) → nat_lt most (words_of c) ≡ over → machine_step m room c ≡ x → on k (bounded_by over x) ≡ At d → Stepped k c d
    stepped_by k c d true x e f h = dead_at d h
    stepped_by k c d false (wasm.Goes b) e f h = record { first = b; fit = e; step = f; rest = h }
    stepped_by k c d false (wasm.Finishes ws s) e f h = over_at (returned ws s) d h
    stepped_by k c d false (wasm.Traps kind s) e f h = over_at (Trapped kind s) d h
    stepped_by k c d false wasm.NoRule e f h = dead_at d h

    pub stepped : (k : ℕ) (c d : Config) → reach (bounded m room most) (suc k) c ≡ At d → Stepped k c d
    stepped k c d h = stepped_by k c d (nat_lt most (words_of c)) (machine_step m room c) refl refl h

    -- backward: a step on the way to an end, or the last one
    pub record Ending (k : ℕ) (c : Config) (e : RunEnd) : Type 0 where
      pub fit : nat_lt most (words_of c) ≡ false
      pub how : ((b : Config) × (machine_step m room c ≡ wasm.Goes b) × (reach (bounded m room most) k b ≡ Over e)) ⊎ (as_move (machine_step m room c) ≡ Ends e)

    ending_by : (k : ℕ) (c : Config) (e : RunEnd) (over : Bool) (x : wasm.Move) → nat_lt most (words_of c) ≡ over → machine_step m room c ≡ x
        → on k (bounded_by over x) ≡ Over e → Ending k c e
    ending_by k c e true x f g h = dead_over e h
    ending_by k c e false (wasm.Goes b) f g h = record { fit = f; how = inl (b, g, h) }
    ending_by k c e false (wasm.Finishes ws s) f g h = record { fit = f; how = inr (ap as_move g ∙ over_ends (returned ws s) e h) }
    ending_by k c e false (wasm.Traps kind s) f g h = record { fit = f; how = inr (ap as_move g ∙ over_ends (Trapped kind s) e h) }
    ending_by k c e false wasm.NoRule f g h = dead_over e h

    pub ending : (k : ℕ) (c : Config) (e : RunEnd) → reach (bounded m room most) (suc k) c ≡ Over e → Ending k c e
    ending k c e h = ending_by k c e (nat_lt most (words_of c)) (machine_step m room c) refl refl h
