-- The lowest of a pile.
use Rattle.std.proofs.Common.{◌≡◌, ℕ, ◌-◌, ◌<◌, ◌≤◌, ◌⊎◌, inl, inr, List, ◌++◌, length, take, drop, reverse, arith, sym, ap, ◌∙◌, length-drop}
use Rattle.std.proofs.lemmas.Bool.{cases_lt}
use Rattle.std.proofs.lemmas.List.{drop_at, reverse-append, length-reverse, take-append-drop, take_all}
use Rattle.wb_state.specs.Stack.{lowest}
use Rattle.wb_control.specs.Piles.{Label, LabelPile}

-- the lowest of a list that is turned round are the first of it
lowest_some : {A : Type 0} (n : ℕ) (xs : List A) → n ≤ length xs → lowest n (reverse xs) ≡ reverse (take n xs)
lowest_some n xs h =
    let l : length (reverse (drop n xs)) ≡ length (reverse xs) - n = length-reverse (drop n xs) ∙ length-drop n xs ∙ ap (λ k. k - n) (sym (length-reverse xs)) in
    let t : reverse xs ≡ reverse (drop n xs) ++ reverse (take n xs) = ap reverse (sym (take-append-drop n xs)) ∙ reverse-append (take n xs) (drop n xs) in
    ap (drop (length (reverse xs) - n)) t ∙ drop_at (reverse (drop n xs)) (reverse (take n xs)) (length (reverse xs) - n) l

lowest_all : {A : Type 0} (n : ℕ) (xs : List A) → length xs ≤ n → lowest n xs ≡ xs
lowest_all n xs h = let z : length xs - n ≡ 0 = omega arith in ap (λ k. drop k xs) z

lowest_either : {A : Type 0} (n : ℕ) (xs : List A) → ((n < length xs) ⊎ (length xs ≤ n)) → reverse (take n xs) ≡ lowest n (reverse xs)
lowest_either n xs (inl less) = sym (lowest_some n xs (omega arith))
lowest_either n xs (inr all) =
    ap reverse (take_all n xs all) ∙ sym (lowest_all n (reverse xs) (omega (arith, all, length-reverse xs)))

pub turned_lowest : {A : Type 0} (n : ℕ) (xs : List A) → reverse (take n xs) ≡ lowest n (reverse xs)
turned_lowest n xs = lowest_either n xs (cases_lt n (length xs))

pub kept_lowest : (new old : List Label) (n room : ℕ) → new ≡ take n old → (let p : LabelPile = record { items = reverse new; room = room } in p) ≡ record { items = lowest n (reverse old); room = room }
kept_lowest new old n room e = λ i. record { items = (ap reverse e ∙ turned_lowest n old) i; room = room }
