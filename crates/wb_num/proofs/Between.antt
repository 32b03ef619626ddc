-- A test that holds at each of a few numbers, one after another, is found by computing it there.
use Rattle.std.proofs.Common.{◌≡◌, ℕ, zero, suc, ◌+◌, ◌<◌, ◌≤◌, Bool, true, false, arith, refl, subst, ◌⊎◌, inl, inr}
use Rattle.std.proofs.lemmas.Bool.{cases_lt}

-- at so many numbers from this one on
abbrev pub holds_from : (ℕ → Bool) → (count low : ℕ) → Bool
holds_from p zero low = true
holds_from p (suc count) low = elim (p low) [ true ↦ holds_from p count (suc low) | false ↦ false ]

first_holds : (b rest : Bool) → elim b [ true ↦ rest | false ↦ false ] ≡ true → b ≡ true
first_holds true rest h = refl
first_holds false rest h = cc

rest_holds : (b rest : Bool) → elim b [ true ↦ rest | false ↦ false ] ≡ true → rest ≡ true
rest_holds true rest h = h
rest_holds false rest h = cc

first_or : (p : ℕ → Bool) (low n : ℕ) → p low ≡ true → low ≤ n → (low < n → p n ≡ true) → ((low < n) ⊎ (n ≤ low)) → p n ≡ true
first_or p low n here from later (inl more) = later more
first_or p low n here from later (inr least) = let e : low ≡ n = omega arith in subst (λ (m : ℕ). p m ≡ true) e here

pub holds_between : (p : ℕ → Bool) (count low n : ℕ) → holds_from p count low ≡ true → low ≤ n → n < low + count → p n ≡ true
holds_between p zero low n h from to = absurd (omega arith)
holds_between p (suc count) low n h from to =
    first_or p low n (first_holds (p low) _ h) from (λ more. holds_between p count (suc low) n (rest_holds (p low) _ h) (omega arith) (omega arith)) (cases_lt low n)
