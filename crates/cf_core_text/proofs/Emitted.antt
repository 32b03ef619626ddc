-- Items that are printed one at a time.
use Rattle.std.proofs.Common.{◌≡◌, ℕ, suc, ◌<◌, ◌≤◌, max, length, get_or, List, [], ◌∷◌, zero, ap, subst, arith}
use Rattle.cf_core_text.specs.declared.layouts.Item.{Item}
use Rattle.cf_core_text.specs.Layout.{deepest}
use Rattle.cf_core_text.proofs.Steps.{deepest_both}

within : (is : List Item) (k : ℕ) (i : Item) → k < length is → i ≡ get_or is k i → deepest (i ∷ []) ≤ deepest is
within [] k i h e = absurd (omega arith)
within (x ∷ xs) zero i h e =
    let d : deepest (x ∷ xs) ≡ max (deepest (x ∷ [])) (deepest xs) = deepest_both (x ∷ []) xs in
    let f : deepest (i ∷ []) ≡ deepest (x ∷ []) = ap (λ (j : Item). deepest (j ∷ [])) e in
    omega (arith, d, f)
within (x ∷ xs) (suc k) i h e =
    let d : deepest (x ∷ xs) ≡ max (deepest (x ∷ [])) (deepest xs) = deepest_both (x ∷ []) xs in
    omega (arith, d, within xs k i (omega arith) e)

-- the item at an index is no deeper than all
pub less_deep : (is js : List Item) (k : ℕ) (i : Item) → js ≡ is → k < length js → i ≡ get_or js k i → deepest (i ∷ []) ≤ deepest is
less_deep is js k i e h f = subst (λ (xs : List Item). deepest (i ∷ []) ≤ deepest xs) e (within js k i h f)
