-- Small laws of truth values and of tests on lists.
use Rattle.std.proofs.Common.{◌≡◌, refl, ℕ, Bool, true, false, ◌&&◌, ◌||◌, List, [], ◌∷◌}
use Rattle.std.specs.List.{list_all}

pub or_left : (a b : Bool) → a ≡ true → (a || b) ≡ true
or_left true b p = refl
or_left false b p = cc

pub or_right : (a b : Bool) → b ≡ true → (a || b) ≡ true
or_right true b p = refl
or_right false b p = p

pub or_false : (a : Bool) → (a || false) ≡ true → a ≡ true
or_false true p = refl
or_false false p = p

pub left : (a b : Bool) → (a && b) ≡ true → a ≡ true
left true b p = refl
left false b p = cc

pub right : (a b : Bool) → (a && b) ≡ true → b ≡ true
right true b p = p
right false b p = cc

pub both : (a b : Bool) → a ≡ true → b ≡ true → (a && b) ≡ true
both true b p q = q
both false b p q = p

pub all_map : (f g : ℕ → Bool) → ((c : ℕ) → f c ≡ true → g c ≡ true) → (xs : List ℕ) → list_all f xs ≡ true → list_all g xs ≡ true
all_map f g h [] e = refl
all_map f g h (x ∷ xs) e = both (g x) (list_all g xs) (h x (left (f x) (list_all f xs) e)) (all_map f g h xs (right (f x) (list_all f xs) e))
