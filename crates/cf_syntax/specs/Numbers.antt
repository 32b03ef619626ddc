-- Numbers by their text, and their ranges.
use Rattle.std.specs.Prelude.{ℕ, ◌+◌, ◌-◌, ◌*◌, ◌==◌, ◌^◌, Bool, true, false, List, [], ◌∷◌, ℤ, pos, negsuc, neg_ℤ, nat_le, nat_lt}
use Rattle.cf_grammar.specs.declared.classes.Class.{Class}
use Rattle.cf_grammar.specs.declared.classes.Class.TheVariants as class

-- the number of digits, behind a number
abbrev pub decimal : ℕ → List ℕ → ℕ
decimal n [] = n
decimal n (c ∷ cs) = decimal (n * 10 + (c - 48)) cs

abbrev pub signed : (minus : Bool) → ℕ → ℤ
signed true n = neg_ℤ (pos n)
signed false n = pos n

-- the number of digits, with `-` before them or not
abbrev pub whole_of : List ℕ → ℤ
whole_of [] = pos 0
whole_of (c ∷ cs) = elim (c == 45) [ true ↦ signed true (decimal 0 cs) | false ↦ signed false (decimal 0 (c ∷ cs)) ]

-- the number of digits behind `#`
abbrev pub natlit_of : List ℕ → ℕ
natlit_of [] = 0
natlit_of (c ∷ cs) = decimal 0 cs

abbrev pub fits_word : ℤ → Bool
fits_word (pos n) = nat_lt n (2 ^ 63)
fits_word (negsuc n) = nat_lt n (2 ^ 63)

-- a number within its range: whole numbers of 64 signed bits, Nat literals up to 64
abbrev pub in_range : Class → List ℕ → Bool
in_range class.Whole text = fits_word (whole_of text)
in_range class.NatLit text = nat_le (natlit_of text) 64
in_range (class.Name p) text = true
in_range (class.Word y) text = true
in_range class.Hole text = true
in_range (class.Mark z) text = true
in_range class.End text = true
