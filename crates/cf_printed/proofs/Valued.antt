-- Printed numbers are read with their values.
use Rattle.std.proofs.Common.{◌≡◌, refl, ap, ◌∙◌, arith, le-ltb, lt-ltb, ltb-true, ne_eqb, ℕ, suc, ◌+◌, ◌-◌, ◌*◌, ◌^◌, ◌<◌, ◌≤◌, true, false, List, [], ◌∷◌}
use Rattle.std.specs.Prelude.{ℤ, pos, negsuc, IsTrue}
use Rattle.std.specs.Char.{digit_value}
use Rattle.std.specs.Fmt.{decimal as printed, signed_decimal}
use Rattle.std.specs.Str.Parse.{AllDigits, IsNumeral, digits_value_after}
use Rattle.std.proofs.lemmas.Fmt.{decimal_is_IsNumeral}
use Rattle.std.proofs.lemmas.Str.Parse.{digit_from_value}
use Rattle.cf_syntax.specs.Numbers.{decimal, natlit_of, signed, whole_of, fits_word}

digit_is : (c : ℕ) → 48 ≤ c → c ≤ 57 → digit_value c ≡ c - 48
digit_is c l h = rw (le-ltb c 48 l, lt-ltb c 58 (omega arith)) refl

digits_same : (n : ℕ) (cs : List ℕ) → AllDigits 10 cs → decimal n cs ≡ digits_value_after 10 n cs
digits_same n [] h = refl
digits_same n (c ∷ cs) h =
    let r = digit_from_value c h.0 in
    let d = digit_is c r.0 r.1 in
    let e : n * 10 + (c - 48) ≡ n * 10 + digit_value c = omega (arith, d) in
    digits_same (n * 10 + (c - 48)) cs h.1 ∙ ap (λ m. digits_value_after 10 m cs) e

decimal_value : (n : ℕ) → n < 2 ^ 64 → decimal 0 (printed n) ≡ n
decimal_value n h = let d = decimal_is_IsNumeral n h in digits_same 0 (printed n) d.0.1 ∙ d.1

pub natlit_value : (n : ℕ) → n < 2 ^ 64 → natlit_of (35 ∷ printed n) ≡ n
natlit_value n h = decimal_value n h

unsigned : (ds : List ℕ) → IsNumeral 10 ds → whole_of ds ≡ pos (decimal 0 ds)
unsigned [] h = absurd (omega (arith, h.0))
unsigned (c ∷ cs) h =
    let r = digit_from_value c h.1.0 in
    ap (λ b. elim b as (λ x. ℤ) [ true ↦ signed true (decimal 0 cs) | false ↦ signed false (decimal 0 (c ∷ cs)) ]) (ne_eqb c 45 (λ e. omega (arith, e, r.0)))

pub whole_value : (z : ℤ) → IsTrue (fits_word z) → whole_of (signed_decimal z) ≡ z
whole_value (pos n) h =
    let k : n < 2 ^ 63 = ltb-true n (2 ^ 63) h in
    let l : n < 2 ^ 64 = omega arith in
    unsigned (printed n) (decimal_is_IsNumeral n l).0 ∙ ap pos (decimal_value n l)
whole_value (negsuc n) h =
    let k : n < 2 ^ 63 = ltb-true n (2 ^ 63) h in
    ap (signed true) (decimal_value (suc n) (omega arith))
