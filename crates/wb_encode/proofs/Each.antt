-- Lists of parts, written one after another.
use Rattle.std.proofs.Common.{◌≡◌, ℕ, zero, suc, ◌+◌, ◌<◌, ◌≤◌, List, [], ◌∷◌, ◌++◌, length, get_or, drop, refl, sym, ap, ◌∙◌, subst, append-nil, append_assoc, arith, add-one, drop-cons}
use Rattle.wb_encode.specs.Appended.{Every, EachSpelled}
use Rattle.wb_encode.specs.Shortest.{IsShortest}
use Rattle.wb_encode.proofs.Shorter.{alone, both_shortest}

pub every_at : {A : Type 0} (P : A → Type 0) (xs : List A) (i : ℕ) (d : A) → Every P xs → i < length xs → P (get_or xs i d)
every_at P [] i d h lt = absurd (omega arith)
every_at P (x ∷ xs) zero d h lt = h.0
every_at P (x ∷ xs) (suc i) d h lt = every_at P xs i d h.1 (omega arith)

-- what is written, with the shortest that the other parts have, is the shortest that all have
abbrev pub Continues : {A : Type 0} → (A → List ℕ → Type 0) → (all left : List A) → List ℕ → Type 0
Continues Spells all left done = (more : List ℕ) → IsShortest (EachSpelled Spells left) more → IsShortest (EachSpelled Spells all) (done ++ more)

pub continues_on : {A : Type 0} (Spells : A → List ℕ → Type 0) (xs : List A) (i : ℕ) (d : A) (done bytes : List ℕ) → i < length xs → Continues Spells xs (drop i xs) done → IsShortest (Spells (get_or xs i d)) bytes → Continues Spells xs (drop (i + 1) xs) (done ++ bytes)
continues_on Spells xs i d done bytes lt inv s = λ more rest.
    let next : drop i xs ≡ get_or xs i d ∷ drop (i + 1) xs = drop-cons xs i d lt ∙ ap (λ k. get_or xs i d ∷ drop k xs) (sym (add-one i)) in
    subst (λ ms. IsShortest (EachSpelled Spells xs) ms) (sym (append_assoc done bytes more))
    (inv (bytes ++ more) (subst (λ ys. IsShortest (EachSpelled Spells ys) (bytes ++ more)) (sym next) (both_shortest bytes more s rest)))

nothing_left : {A : Type 0} (xs : List A) (i : ℕ) → length xs ≤ i → drop i xs ≡ []
nothing_left [] zero h = refl
nothing_left [] (suc i) h = refl
nothing_left (x ∷ xs) zero h = absurd (omega arith)
nothing_left (x ∷ xs) (suc i) h = nothing_left xs i (omega arith)

pub continues_to_end : {A : Type 0} (Spells : A → List ℕ → Type 0) (xs : List A) (i : ℕ) (done : List ℕ) → length xs ≤ i → Continues Spells xs (drop i xs) done → IsShortest (EachSpelled Spells xs) done
continues_to_end Spells xs i done h inv =
    subst (λ ms. IsShortest (EachSpelled Spells xs) ms) (append-nil done) (inv [] (subst (λ ys. IsShortest (EachSpelled Spells ys) []) (sym (nothing_left xs i h)) (alone [] refl (λ other o. o))))
