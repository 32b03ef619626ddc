-- What a value stands for is closed in the context of the variables of its levels.
use Rattle.std.specs.Prelude.{ℕ, zero, suc, ◌+◌, ◌<◌, ◌≡◌, Bool, true, false, nat_eq, List}
use Rattle.std.proofs.Common.{arith}
use Rattle.cf_term.specs.Core.{Tm, Part, parts, first_part, rest_parts}
use Rattle.cf_term.specs.Closed.{IsClosed, AreClosed}
use Rattle.cf_term.specs.Same.{bare}
use Rattle.cf_term.specs.Laws.{BareTermIsClosed, SubstitutionIsClosed}
use Rattle.cf_value.specs.Val.{Val, VParts, Vals, level, form, none, ready, frozen, empty, push, values_in}
use Rattle.cf_value.specs.Stands.{term_at, terms_at, env_at, with_levels, and_first}
use Rattle.cf_value.specs.Contexts.{IsKnown, AreKnown, AreKnownParts, below, or_levels}
use Rattle.cf_value.specs.Laws.{ValueIsClosed}

-- each known level stands for one of n variables
abbrev Stands : (known : ℕ → Type 0) → ℕ → (ℕ → ℕ) → Type 0
Stands known n at = (l : ℕ) → known l → at l < n

stands_choice : (b : Bool) (x : Type 0) (p n m : ℕ) → (x → p < n) → suc n ≡ m → elim b as (λ _. Type 0) [ true ↦ Unit {0} | false ↦ x ] → elim b as (λ _. ℕ) [ true ↦ 0 | false ↦ suc p ] < m
stands_choice true x p n m f e h = omega (arith, e)
stands_choice false x p n m f e h = let g = f h in omega (arith, e, g)

stands_levels : (k l n : ℕ) (known : ℕ → Type 0) (at : ℕ → ℕ) → Stands known n at → Stands (or_levels k l known) (n + k) (with_levels k l at)
stands_levels zero l n known at s j h = let g = s j h in omega (arith, g)
stands_levels (suc k) l n known at s j h =
    stands_choice (nat_eq j (l + k)) (or_levels k l known j) (with_levels k l at j) (n + k) (n + suc k) (stands_levels k l n known at s j) (omega arith) h

first_closed : (n m : ℕ) (u : Tm) (s : ℕ → Tm) → IsClosed n u → ((i : ℕ) → i < m → IsClosed n (s i)) → (i : ℕ) → i < m + 1 → IsClosed n (and_first u s i)
first_closed n m u s c f zero h = c
first_closed n m u s c f (suc i) h = f i (omega (arith, h))

module _ (bare-closed : BareTermIsClosed) (substitution-closed : SubstitutionIsClosed) where
  mutual
    closed : (v : Val) (n : ℕ) (known : ℕ → Type 0) (at : ℕ → ℕ) → IsKnown known v → Stands known n at → IsClosed n (term_at at v)
    closed (level l) n known at h s = s l h
    closed (form c l ps) n known at h s = closed_parts ps (parts c) l n known at h.2 s

    closed_parts : (ps : VParts) (qs : List Part) (l n : ℕ) (known : ℕ → Type 0) (at : ℕ → ℕ) → AreKnownParts known l qs ps → Stands known n at → AreClosed n qs (terms_at at l qs ps)
    closed_parts none qs l n known at h s = tt
    closed_parts (ready v ps) qs l n known at h s =
        let k = (first_part qs).binds in
        (closed v (n + k) (or_levels k l known) (with_levels k l at) h.1 (stands_levels k l n known at s), closed_parts ps (rest_parts qs) l n known at h.2 s)
    closed_parts (frozen e t ps) qs l n known at h s =
        let k = (first_part qs).binds in
        (substitution-closed (bare t) k (values_in e) n (env_at at e) (closed_env e n known at h.2 s) (bare-closed t (values_in e + k) h.1), closed_parts ps (rest_parts qs) l n known at h.3 s)

    closed_env : (e : Vals) (n : ℕ) (known : ℕ → Type 0) (at : ℕ → ℕ) → AreKnown known e → Stands known n at → (i : ℕ) → i < values_in e → IsClosed n (env_at at e i)
    closed_env empty n known at h s i l = absurd (omega (arith, l))
    closed_env (push v e) n known at h s i l = first_closed n (values_in e) (term_at at v) (env_at at e) (closed v n known at h.0 s) (closed_env e n known at h.1 s) i l

  pub value_closed : ValueIsClosed
  value_closed v d n at s h = closed v n (below d) at h s
