-- Numbers of N bits: where reading stops, and how far they go.
use Rattle.std.proofs.Common.{◌≡◌, ℕ, ◌+◌, ◌-◌, ◌*◌, ◌^◌, ◌<◌, ◌≤◌, ap, ◌∙◌, arith}
use Rattle.std.specs.Prelude.{List, ◌∷◌, ℤ, pos, ◌+ℤ◌, ◌*ℤ◌}
use Rattle.std.proofs.lemmas.Bool.Decides.{nat_tests}
use Rattle.std.proofs.lemmas.Nat.{pow-add}
use Rattle.std.proofs.lemmas.Int.{ints}
use Rattle.std.proofs.Math.Nat.{pow-le-pow_right}
use Rattle.wb_syntax.specs.Grammar.{Malformed, Stops, read_unsigned, read_signed}
use Rattle.wb_decode.specs.Reading.{IsSignedRange}

pub power : (bits : ℕ) → 7 < bits → 2 ^ bits ≡ 128 * 2 ^ (bits - 7)
power bits h = let e : bits ≡ 7 + (bits - 7) = omega arith in ap (λ k. 2 ^ k) e ∙ pow-add 2 7 (bits - 7)

pub power_below : (bits most : ℕ) → bits ≤ most → 2 ^ bits ≤ 2 ^ most
power_below bits most h = pow-le-pow_right (omega arith) h

-- one more byte, and the numbers still fit
pub unsigned_more : (bits b high : ℕ) → 7 < bits → 128 ≤ b → b < 256 → high < 2 ^ (bits - 7) → (b - 128) + 128 * high < 2 ^ bits
unsigned_more bits b high h l m r = let e = power bits h in omega (arith, e)

pub half_power : (bits : ℕ) → 7 < bits → 2 ^ (bits - 1) ≡ 128 * 2 ^ ((bits - 7) - 1)
half_power bits h = let e : bits - 1 ≡ 7 + ((bits - 7) - 1) = omega arith in ap (λ k. 2 ^ k) e ∙ pow-add 2 7 ((bits - 7) - 1)

pub signed_more : (bits b : ℕ) (high : ℤ) → 7 < bits → 128 ≤ b → b < 256 → IsSignedRange (bits - 7) high → IsSignedRange bits (pos (b - 128) +ℤ (pos 128 *ℤ high))
signed_more bits b high h l m r = let e = half_power bits h in (omega (arith, ints, e, r.0), omega (arith, ints, e, r.1))

pub signed_within : (bits most : ℕ) (z : ℤ) → bits ≤ most → IsSignedRange bits z → IsSignedRange most z
signed_within bits most z h r = let e = power_below (bits - 1) (most - 1) (omega arith) in (omega (arith, ints, e, r.0), omega (arith, ints, e, r.1))

-- the last byte has bits that are not used
pub unsigned_unused : (bits b : ℕ) (bytes rest : List ℕ) → bytes ≡ b ∷ rest → b < 128 → 2 ^ bits ≤ b → (left : List ℕ) × (read_unsigned bits bytes ≡ Stops left Malformed)
unsigned_unused bits b bytes rest e l h = (rest, ap (read_unsigned bits) e ∙ grind (arith, nat_tests))

-- one byte more than there may be
pub unsigned_long : (bits b : ℕ) (bytes rest : List ℕ) → bytes ≡ b ∷ rest → 128 ≤ b → b < 256 → bits ≤ 7 → (left : List ℕ) × (read_unsigned bits bytes ≡ Stops left Malformed)
unsigned_long bits b bytes rest e l m h = (rest, ap (read_unsigned bits) e ∙ grind (arith, nat_tests))

pub signed_long : (bits b : ℕ) (bytes rest : List ℕ) → bytes ≡ b ∷ rest → 128 ≤ b → b < 256 → bits ≤ 7 → (left : List ℕ) × (read_signed bits bytes ≡ Stops left Malformed)
signed_long bits b bytes rest e l m h = (rest, ap (read_signed bits) e ∙ grind (arith, nat_tests))

pub signed_unused : (bits b : ℕ) (bytes rest : List ℕ) → bytes ≡ b ∷ rest → b < 64 → 2 ^ (bits - 1) ≤ b → (left : List ℕ) × (read_signed bits bytes ≡ Stops left Malformed)
signed_unused bits b bytes rest e l h =
    let m : b < 128 = omega arith in
    (rest, ap (read_signed bits) e ∙ grind (arith, nat_tests))

pub signed_unused_below : (bits b : ℕ) (bytes rest : List ℕ) → bytes ≡ b ∷ rest → 64 ≤ b → b < 128 → b + 2 ^ (bits - 1) < 128 → (left : List ℕ) × (read_signed bits bytes ≡ Stops left Malformed)
signed_unused_below bits b bytes rest e l m h = (rest, ap (read_signed bits) e ∙ grind (arith, nat_tests))
