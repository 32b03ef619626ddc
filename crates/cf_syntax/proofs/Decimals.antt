-- Numbers by their digits.
use Rattle.std.proofs.Common.{◌≡◌, ◌∙◌, ap, refl, ℕ, ◌+◌, ◌-◌, ◌*◌, ◌<◌, List, [], ◌∷◌, ◌++◌, length, take, get_or}
use Rattle.std.proofs.lemmas.List.{take_more}
use Rattle.cf_syntax.specs.Numbers.{decimal}

-- one digit more
decimal-push : (n : ℕ) (ds : List ℕ) (d : ℕ) → decimal n (ds ++ d ∷ []) ≡ decimal n ds * 10 + (d - 48)
decimal-push n [] d = refl
decimal-push n (c ∷ ds) d = decimal-push (n * 10 + (c - 48)) ds d

pub decimal-more : (ds : List ℕ) (i : ℕ) → i < length ds → decimal 0 (take (i + 1) ds) ≡ decimal 0 (take i ds) * 10 + (get_or ds i 0 - 48)
decimal-more ds i h = ap (decimal 0) (take_more ds i 0 h) ∙ decimal-push 0 (take i ds) (get_or ds i 0)
