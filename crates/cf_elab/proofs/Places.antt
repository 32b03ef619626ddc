-- The first place in a list where a test passes.
use Rattle.std.proofs.Common.{◌≡◌, refl, ap, sym, ◌∙◌, ℕ, suc, ◌+◌, ◌-◌, Bool, true, false, cond, not, nat_lt, List, [], ◌∷◌, ◌++◌, length, reverse, position, Option, Some, None, option_map, arith}
use Rattle.std.proofs.lemmas.List.{length-reverse}
use Rattle.std.proofs.lemmas.Grind.{reverse_onto, common_steps}
use Rattle.std.specs.List.{position_or_len}

module _ {A : Type 0} (p : A → Bool) where
  abbrev pub place : List A → Option ℕ
  place [] = None
  place (x ∷ xs) = cond (p x) (Some 0) (option_map suc (place xs))

  step : (b : Bool) (k n : ℕ) (o : Option ℕ) → cond (nat_lt k n) (Some k) None ≡ o
      → cond (nat_lt (cond (not b) (1 + k) 0) (suc n)) (Some (cond (not b) (1 + k) 0)) None ≡ cond b (Some 0) (option_map suc o)
  step true k n o e = grind (arith, common_steps)
  step false k n o e = rw (sym e) (grind (arith, common_steps))

  pub position_place : (xs : List A) → position p xs ≡ place xs
  position_place [] = refl
  position_place (x ∷ xs) = step (p x) (position_or_len p xs) (length xs) (place xs) (position_place xs)

  -- the first of two that is some place, the second counted from n on
  abbrev pub first : Option ℕ → ℕ → Option ℕ → Option ℕ
  first (Some i) n o = Some i
  first None n o = option_map (λ k. n + k) o

  first_suc : (b : Bool) (o : Option ℕ) (n : ℕ) (o' : Option ℕ) → cond b (Some 0) (option_map suc (first o n o')) ≡ first (cond b (Some 0) (option_map suc o)) (suc n) o'
  first_suc true o n o' = refl
  first_suc false (Some i) n o' = refl
  first_suc false None n (Some k) = ap Some (omega arith)
  first_suc false None n None = refl

  first_zero : (o : Option ℕ) → o ≡ option_map (λ k. 0 + k) o
  first_zero (Some k) = ap Some (omega arith)
  first_zero None = refl

  pub place_append : (xs ys : List A) → place (xs ++ ys) ≡ first (place xs) (length xs) (place ys)
  place_append [] ys = first_zero (place ys)
  place_append (x ∷ xs) ys = ap (λ o. cond (p x) (Some 0) (option_map suc o)) (place_append xs ys) ∙ first_suc (p x) (place xs) (length xs) (place ys)

  -- behind an element that passes none does
  abbrev pub Once : List A → Type 0
  Once [] = Unit {0}
  Once (x ∷ xs) = (p x ≡ true → place xs ≡ None) × Once xs

  mirror_step : (b : Bool) (n : ℕ) (o : Option ℕ) → (b ≡ true → o ≡ None)
      → first (option_map (λ i. n - 1 - i) o) n (cond b (Some 0) (option_map suc None)) ≡ option_map (λ i. suc n - 1 - i) (cond b (Some 0) (option_map suc o))
  mirror_step true n o h = rw (h refl) (ap Some (omega arith))
  mirror_step false n (Some i) h = ap Some (omega arith)
  mirror_step false n None h = refl

  -- so from the other end it is this place
  pub place_reverse : (xs : List A) → Once xs → place (reverse xs) ≡ option_map (λ i. length xs - 1 - i) (place xs)
  place_reverse [] h = refl
  place_reverse (x ∷ xs) h =
      ap place (reverse_onto xs x []) ∙ place_append (reverse xs) (x ∷ []) ∙ ap (λ n. first (place (reverse xs)) n (place (x ∷ []))) (length-reverse xs)
      ∙ ap (λ o. first o (length xs) (place (x ∷ []))) (place_reverse xs h.1) ∙ mirror_step (p x) (length xs) (place xs) h.0
