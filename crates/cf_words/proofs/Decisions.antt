-- What can be decided of words.
use Rattle.std.proofs.Common.{◌≡◌, ◌⊎◌, inl, inr, ℕ, zero, suc, ◌<◌, List, [], ◌∷◌, refl, ap, arith}
use Rattle.std.specs.Char.{digit_value}
use Rattle.std.specs.Str.Parse.{AllDigits}

-- it holds or it does not
abbrev pub Decided : Type 0 → Type 0
Decided P = P ⊎ (P → ⊥)

pub same_number : (x y : ℕ) → Decided (x ≡ y)
same_number zero zero = inl refl
same_number zero (suc y) = inr (λ e. absurd (omega (arith, e)))
same_number (suc x) zero = inr (λ e. absurd (omega (arith, e)))
same_number (suc x) (suc y) = elim (same_number x y) [ inl e ↦ inl (ap suc e) | inr n ↦ inr (λ e. n (omega (arith, e))) ]

pub less : (x y : ℕ) → Decided (x < y)
less x zero = inr (λ l. absurd (omega (arith, l)))
less zero (suc y) = inl (omega arith)
less (suc x) (suc y) = elim (less x y) [ inl l ↦ inl (omega (arith, l)) | inr n ↦ inr (λ l. n (omega (arith, l))) ]

pub both : {A B : Type 0} → Decided A → Decided B → Decided (A × B)
both (inl a) (inl b) = inl (a, b)
both (inl a) (inr n) = inr (λ p. n p.1)
both (inr n) b = inr (λ p. n p.0)

pub same_text : (xs ys : List ℕ) → Decided (xs ≡ ys)
same_text [] [] = inl refl
same_text [] (y ∷ ys) = inr (λ e. cc)
same_text (x ∷ xs) [] = inr (λ e. cc)
same_text (x ∷ xs) (y ∷ ys) = from (same_number x y) (same_text xs ys)
  where
    from : Decided (x ≡ y) → Decided (xs ≡ ys) → Decided (x ∷ xs ≡ y ∷ ys)
    from (inl e) (inl f) = inl cc
    from (inl e) (inr n) = inr (λ f. n cc)
    from (inr n) d = inr (λ f. n cc)

pub all_digits : (word : List ℕ) → Decided (AllDigits 10 word)
all_digits [] = inl tt
all_digits (c ∷ cs) = both (less (digit_value c) 10) (all_digits cs)
