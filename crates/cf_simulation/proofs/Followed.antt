-- Runs of a machine that follows another.
use Rattle.std.proofs.Common.{◌≡◌, ℕ, zero, suc, ◌+◌, ◌*◌, ◌≤◌, refl, sym, ap, ◌∙◌, subst, arith}
use Rattle.std.proofs.Math.Nat.{mul-le-mul_right, mul_assoc, add-mul}
use Rattle.cf_simulation.specs.Simulation.{Move, Goes, Ends, Lost, Reach, At, Over, Dead, reach, weight, Follows}
use Rattle.cf_simulation.specs.Laws.{FollowsKeeps, KeepsThrough}

module _ {T P : Type 0} (g : T → Move T P) where
  -- the rest of a run after a move that is known
  abbrev after : ℕ → Move T P → Reach T P
  after n m = elim m [ Goes t ↦ reach g n t | Ends o ↦ Over o | Lost ↦ Dead ]

  abbrev weigh_after : (w : T → ℕ) (t : T) → ℕ → Move T P → ℕ
  weigh_after w t n m = elim m [ Goes s ↦ w t + weight g w n s | Ends o ↦ 0 | Lost ↦ 0 ]

  at_same : (t t' : T) → ◌≡◌ {A = Reach T P} (At t) (At t') → t ≡ t'
  at_same t t' e = cc

  more_on : (k j : ℕ) → ((t t' : T) → reach g k t ≡ At t' → reach g (k + j) t ≡ reach g j t') → (m : Move T P) (t' : T) → after k m ≡ At t' → after (k + j) m ≡ reach g j t'
  more_on k j ih (Goes t) t' e = ih t t' e
  more_on k j ih (Ends o) t' e = cc
  more_on k j ih Lost t' e = cc

  -- steps after steps
  pub reach_more : (k j : ℕ) (t t' : T) → reach g k t ≡ At t' → reach g (k + j) t ≡ reach g j t'
  reach_more zero j t t' e = let p : 0 + j ≡ j = omega arith in ap (λ n. reach g n t) p ∙ ap (reach g j) (at_same t t' e)
  reach_more (suc k) j t t' e =
      let p : suc k + j ≡ suc (k + j) = omega arith in
      ap (λ n. reach g n t) p ∙ more_on k j (reach_more k j) (g t) t' e

  weigh_on : (w : T → ℕ) (t : T) (k j : ℕ) → ((s t' : T) → reach g k s ≡ At t' → weight g w (k + j) s ≡ weight g w k s + weight g w j t')
      → (m : Move T P) (t' : T) → after k m ≡ At t' → weigh_after w t (k + j) m ≡ weigh_after w t k m + weight g w j t'
  weigh_on w t k j ih (Goes s) t' e = (let h = ih s t' e in omega (arith, h))
  weigh_on w t k j ih (Ends o) t' e = cc
  weigh_on w t k j ih Lost t' e = cc

  -- and their weights
  pub weight_more : (w : T → ℕ) (k j : ℕ) (t t' : T) → reach g k t ≡ At t' → weight g w (k + j) t ≡ weight g w k t + weight g w j t'
  weight_more w zero j t t' e = (let p : 0 + j ≡ j = omega arith in let q = ap (λ n. weight g w n t) p ∙ ap (weight g w j) (at_same t t' e) in omega (arith, q))
  weight_more w (suc k) j t t' e =
      let p : suc k + j ≡ suc (k + j) = omega arith in
      ap (λ n. weight g w n t) p ∙ weigh_on w t k j (weight_more w k j) (g t) t' e

module _ {S O T P : Type 0} (f : S → Move S O) (g : T → Move T P) (w : S → ℕ) (v : T → ℕ) (cost : ℕ) (Agrees : O → P → Type 0) (R : S → T → ℕ → Type 0) (follows : Follows f g w v cost Agrees R) where
  abbrev Runs : ℕ → S → S → T → ℕ → Type 0
  Runs n s s' t saved = (k : ℕ) × (t' : T) × (saved' : ℕ) × (reach g k t ≡ At t') × (k + saved' ≤ n * cost + saved) × (weight f w n s ≤ weight g v k t) × R s' t' saved'

  runs_on : (n : ℕ) (s s' : S) (t : T) (saved : ℕ) → R s t saved → ((s1 : S) (t1 : T) (saved1 : ℕ) → R s1 t1 saved1 → reach f n s1 ≡ At s' → Runs n s1 s' t1 saved1)
      → (m : Move S O) → f s ≡ m → reach f (suc n) s ≡ At s' → Runs (suc n) s s' t saved
  runs_on n s s' t saved r ih (Ends o) eq e = (let d : ◌≡◌ {A = Reach S O} (Over o) (At s') = sym (ap (after f n) eq) ∙ e in cc)
  runs_on n s s' t saved r ih Lost eq e = (let d : ◌≡◌ {A = Reach S O} Dead (At s') = sym (ap (after f n) eq) ∙ e in cc)
  runs_on n s s' t saved r ih (Goes s1) eq e =
      let a = follows.goes s s1 t saved r eq in
      let b = ih s1 a.1 a.2 a.6 (sym (ap (after f n) eq) ∙ e) in
      let weighs : weight f w (suc n) s ≡ w s + weight f w n s1 = ap (weigh_after f w s n) eq in
      let both = weight_more g v a.0 b.0 t a.1 a.3 in
      (a.0 + b.0, b.1, b.2, reach_more g a.0 b.0 t a.1 a.3 ∙ b.3, omega (arith, a.4, b.4), omega (arith, weighs, both, a.5, b.5), b.6)

  -- n steps that are made are followed, with both counts
  pub runs : (n : ℕ) (s s' : S) (t : T) (saved : ℕ) → R s t saved → reach f n s ≡ At s' → Runs n s s' t saved
  runs zero s s' t saved r e = (0, t, saved, refl, omega arith, omega arith, subst (λ x. R x t saved) (at_same f s s' e) r)
  runs (suc n) s s' t saved r e = runs_on n s s' t saved r (λ s1 t1 saved1. runs n s1 s' t1 saved1) (f s) refl e

  abbrev End : ℕ → O → T → ℕ → Type 0
  End n o t saved = (k : ℕ) × (p : P) × (reach g k t ≡ Over p) × (k ≤ n * cost + saved) × Agrees o p

  ends_on : (n : ℕ) (s : S) (o : O) (t : T) (saved : ℕ) → R s t saved → ((s1 : S) (t1 : T) (saved1 : ℕ) → R s1 t1 saved1 → reach f n s1 ≡ Over o → End n o t1 saved1)
      → (m : Move S O) → f s ≡ m → reach f (suc n) s ≡ Over o → End (suc n) o t saved
  ends_on n s o t saved r ih Lost eq e = (let d : ◌≡◌ {A = Reach S O} Dead (Over o) = sym (ap (after f n) eq) ∙ e in cc)
  ends_on n s o t saved r ih (Ends q) eq e =
      let same : q ≡ o = (let d : ◌≡◌ {A = Reach S O} (Over q) (Over o) = sym (ap (after f n) eq) ∙ e in cc) in
      let a = follows.ends s o t saved r (eq ∙ ap (λ q. Ends q) same) in
      let l = a.3 in
      (a.0, a.1, a.2, omega (arith, l), a.4)
  ends_on n s o t saved r ih (Goes s1) eq e =
      let a = follows.goes s s1 t saved r eq in
      let b = ih s1 a.1 a.2 a.6 (sym (ap (after f n) eq) ∙ e) in
      (a.0 + b.0, b.1, reach_more g a.0 b.0 t a.1 a.3 ∙ b.2, omega (arith, a.4, b.3), b.4)

  pub ends_too : (n : ℕ) (s : S) (o : O) (t : T) (saved : ℕ) → R s t saved → reach f n s ≡ Over o → End n o t saved
  ends_too zero s o t saved r e = (let d : ◌≡◌ {A = Reach S O} (At s) (Over o) = e in cc)
  ends_too (suc n) s o t saved r e = ends_on n s o t saved r (λ s1 t1 saved1. ends_too n s1 o t1 saved1) (f s) refl e

pub follows_keeps_lem : {S O T P : Type 0} (Agrees : O → P → Type 0) (R : S → T → (saved : ℕ) → Type 0) (Beside : S → T → Type 0) → FollowsKeeps Agrees R Beside
follows_keeps_lem Agrees R Beside f g w v cost follows beside s t saved r = record {
  running = λ n s' e. (let a = runs f g w v cost Agrees R follows n s s' t saved r e in let l = a.4 in (a.0, a.1, a.3, omega (arith, l), a.5, beside s' a.1 a.2 a.6));
  ends = λ n o e. ends_too f g w v cost Agrees R follows n s o t saved r e;
}

times : (k n cost cost' saved saved' j : ℕ) → k ≤ n * cost + saved → j ≤ k * cost' + saved' → j ≤ n * (cost * cost') + (saved * cost' + saved')
times k n cost cost' saved saved' j l m =
    let a : k * cost' ≤ (n * cost + saved) * cost' = mul-le-mul_right cost' l in
    let b : (n * cost + saved) * cost' ≡ n * cost * cost' + saved * cost' = add-mul (n * cost) saved cost' in
    let c : n * cost * cost' ≡ n * (cost * cost') = mul_assoc n cost cost' in
    omega (arith, a, b, c, m)

pub keeps_through_lem : {S O T P U Q : Type 0} (Agrees : O → P → Type 0) (Agrees' : P → Q → Type 0) (Beside : S → T → Type 0) (Beside' : T → U → Type 0) → KeepsThrough Agrees Agrees' Beside Beside'
keeps_through_lem Agrees Agrees' Beside Beside' f g h w v x cost cost' saved saved' s t u a b = record {
  running = λ n s' e.
      (let p = a.running n s' e in
      let q = b.running p.0 p.1 p.2 in
      let l = p.4 in
      let m = q.4 in
      (q.0, q.1, q.2, times p.0 n cost cost' saved saved' q.0 p.3 q.3, omega (arith, l, m), (p.1, p.5, q.5)));
  ends = λ n o e.
      (let p = a.ends n o e in
      let q = b.ends p.0 p.1 p.2 in
      (q.0, q.1, q.2, times p.0 n cost cost' saved saved' q.0 p.3 q.3, (p.1, p.4, q.4)));
}
