-- Looking through a list from its end.
use Rattle.std.proofs.Common.{◌≡◌, ap, sym, ◌∙◌, ℕ, zero, suc, ◌-◌, ◌<◌, Bool, true, false, cond, nat_lt, List, [], ◌∷◌, map, length, reverse, get_or, position, Some, None, arith}
use Rattle.std.proofs.lemmas.List.{length-map, get_or-reverse}
use Rattle.std.proofs.lemmas.List.Sums.{position_or_len_is}
use Rattle.std.proofs.lemmas.Grind.{common_steps}
use Rattle.std.specs.List.{position_or_len}

module _ {A B : Type 0} (f : A → B) (d : B) where
  seen_at : (xs : List A) (k : ℕ) (x : A) → k < length xs → x ≡ get_or xs k x → get_or (map f xs) k d ≡ f x
  seen_at [] k x h e = absurd (omega arith)
  seen_at (y ∷ ys) zero x h e = ap f (sym e)
  seen_at (y ∷ ys) (suc k) x h e = seen_at ys k x (omega arith) e

  -- the element i places before the last
  pub seen_from_end : (xs : List A) (n i : ℕ) (x : A) → n ≡ length xs → i < n → x ≡ get_or xs (n - 1 - i) x → get_or (reverse (map f xs)) i d ≡ f x
  seen_from_end xs n i x e h e' =
      let m : length (map f xs) ≡ n = length-map xs f ∙ sym e in
      get_or-reverse (map f xs) i d (omega (arith, m, h)) ∙ ap (λ k. get_or (map f xs) (k - 1 - i) d) m ∙ seen_at xs (n - 1 - i) x (omega (arith, h, e)) e'

module _ {B : Type 0} (p : B → Bool) (d : B) where
  fits : (k n i : ℕ) → k ≡ i → i < n → Some i ≡ cond (nat_lt k n) (Some k) None
  fits k n i e h = rw e (grind (arith, common_steps, h))

  past : (k n : ℕ) → k ≡ n → None ≡ cond (nat_lt k n) (Some k) None
  past k n e = rw e (grind (arith, common_steps))

  -- the first one that passes
  pub found : (xs : List B) (i : ℕ) → i < length xs → ((k : ℕ) → k < i → p (get_or xs k d) ≡ false) → p (get_or xs i d) ≡ true → Some i ≡ position p xs
  found xs i h none here = fits (position_or_len p xs) (length xs) i (position_or_len_is p xs i d (omega (arith, h)) none (λ _. here)) h

  pub absent : (xs : List B) (n : ℕ) → n ≡ length xs → ((k : ℕ) → k < n → p (get_or xs k d) ≡ false) → None ≡ position p xs
  absent xs n e none = past (position_or_len p xs) (length xs) (position_or_len_is p xs n d (omega (arith, e)) none (λ h. absurd (omega (arith, e, h))) ∙ e)
