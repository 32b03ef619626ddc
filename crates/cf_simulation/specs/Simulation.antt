-- Deterministic machines, and one that follows another with a most and a least number of steps.
use Rattle.std.specs.Prelude.{◌≡◌, ℕ, zero, suc, ◌+◌, ◌*◌, ◌≤◌}

-- a step to a state, or to an outcome, or none
pub data Move (S O : Type 0) : Type 0 where
  Goes : S → Move S O
  Ends : O → Move S O
  Lost : Move S O

-- where a run is after some steps
pub data Reach (S O : Type 0) : Type 0 where
  At : S → Reach S O
  Over : O → Reach S O
  Dead : Reach S O

module _ {S O : Type 0} (step : S → Move S O) where
  -- after n steps; the step to the outcome counts
  abbrev pub reach : ℕ → S → Reach S O
  reach zero s = At s
  reach (suc n) s = elim (step s) [ Goes s' ↦ reach n s' | Ends o ↦ Over o | Lost ↦ Dead ]

  -- the weights of the states from which n steps are made
  abbrev pub weight : (S → ℕ) → ℕ → S → ℕ
  weight w zero s = 0
  weight w (suc n) s = elim (step s) [ Goes s' ↦ w s + weight w n s' | Ends o ↦ 0 | Lost ↦ 0 ]

-- g follows f: each step of f is some steps of g, at most `cost` and what was saved, of at least its weight
pub record Follows {S O T P : Type 0} (f : S → Move S O) (g : T → Move T P) (w : S → ℕ) (v : T → ℕ) (cost : ℕ)
    (Agrees : O → P → Type 0) (R : S → T → (saved : ℕ) → Type 0) : Type 0 where
  pub goes : (s s' : S) (t : T) (saved : ℕ) → R s t saved → f s ≡ Goes s' →
      (k : ℕ) × (t' : T) × (saved' : ℕ) × (reach g k t ≡ At t') × (k + saved' ≤ cost + saved) × (w s ≤ weight g v k t) × R s' t' saved'
  pub ends : (s : S) (o : O) (t : T) (saved : ℕ) → R s t saved → f s ≡ Ends o →
      (k : ℕ) × (p : P) × (reach g k t ≡ Over p) × (k ≤ cost + saved) × Agrees o p

-- What a pass keeps of the runs from these two states: while f runs, g runs, for at most so many steps a step and with no less weight,
-- to a state that Beside holds of; where f ends, g ends in agreement.
pub record Keeps {S O T P : Type 0} (f : S → Move S O) (g : T → Move T P) (w : S → ℕ) (v : T → ℕ) (cost saved : ℕ)
    (Agrees : O → P → Type 0) (Beside : S → T → Type 0) (s : S) (t : T) : Type 0 where
  pub running : (n : ℕ) (s' : S) → reach f n s ≡ At s' → (k : ℕ) × (t' : T) × (reach g k t ≡ At t') × (k ≤ n * cost + saved) × (weight f w n s ≤ weight g v k t) × Beside s' t'
  pub ends : (n : ℕ) (o : O) → reach f n s ≡ Over o → (k : ℕ) × (p : P) × (reach g k t ≡ Over p) × (k ≤ n * cost + saved) × Agrees o p

-- one relation after another
abbrev pub Through : {A B C : Type 0} → (A → B → Type 0) → (B → C → Type 0) → A → C → Type 0
Through {B = B} R Q a c = (b : B) × R a b × Q b c
