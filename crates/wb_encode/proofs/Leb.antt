-- Numbers in their fewest bytes are spelled, and each other spelling of them is longer; a greater number has no shorter spelling.
use Rattle.std.proofs.Common.{◌≡◌, ℕ, length, refl, ◌+◌, ◌-◌, ◌*◌, ◌/◌, ◌%◌, ◌^◌, ◌<◌, ◌≤◌, Bool, true, false, List, [], ◌∷◌, sym, ap, ◌∙◌, subst, arith, ℤ, pos, negsuc, ◌+ℤ◌, ◌*ℤ◌, ◌⊎◌, inl, inr}
use Rattle.std.proofs.lemmas.Bool.{cases_lt}
use Rattle.std.proofs.lemmas.Int.{ints}
use Rattle.std.proofs.lemmas.Nat.{pow-add}
use Rattle.std.proofs.Math.Pow.{pow_mono}
use Rattle.std.specs.Int.{complement_if, w32, w64}
use Rattle.std.specs.Prelude.{if◌then◌else◌, FitsSigned}
use Rattle.wb_encode.specs.Appended.{IsWithin}
use Rattle.wb_encode.specs.Shortest.{IsShortest}
use Rattle.wb_encode.proofs.Appending.{Behind}
use Rattle.wb_syntax.specs.Grammar.{IsUnsigned, IsSigned}

-- a number of 2 ^ k or more has more than k bits
more_bits : (k bits n : ℕ) → 2 ^ k ≤ n → n < 2 ^ bits → ((k < bits) ⊎ (bits ≤ k)) → k < bits
more_bits k bits n from to (inl h) = h
more_bits k bits n from to (inr h) = absurd (omega (arith, pow_mono h))

-- seven bits fewer
shorter : (bits : ℕ) → 7 ≤ bits → 2 ^ bits ≡ 128 * 2 ^ (bits - 7)
shorter bits h = let e : 7 + (bits - 7) ≡ bits = omega arith in ap (λ k. 2 ^ k) (sym e) ∙ pow-add 2 7 (bits - 7)

pub unsigned_bits : (bits n : ℕ) → 128 ≤ n → n < 2 ^ bits → 7 < bits
unsigned_bits bits n from to = more_bits 7 bits n from to (cases_lt 7 bits)

pub unsigned_high : (bits n : ℕ) → 128 ≤ n → n < 2 ^ bits → n / 128 < 2 ^ (bits - 7)
unsigned_high bits n from to = let e = shorter bits (omega (arith, unsigned_bits bits n from to)) in omega (arith, e)

unsigned_long : (bits n : ℕ) → 128 ≤ n → 7 < bits → (rest : List ℕ) → IsUnsigned (bits - 7) rest (n / 128) → IsUnsigned bits ((128 + n % 128) ∷ rest) n
unsigned_long bits n from wide [] h = absurd h
unsigned_long bits n from wide (c ∷ bs) h = (omega arith, omega arith, wide, n / 128, omega arith, h)

pub unsigned_more : (bits n : ℕ) → 128 ≤ n → n < 2 ^ bits → (rest : List ℕ) → IsUnsigned (bits - 7) rest (n / 128) → IsUnsigned bits ((128 + n % 128) ∷ rest) n
unsigned_more bits n from to rest h = unsigned_long bits n from (unsigned_bits bits n from to) rest h

unsigned_others : (bits n : ℕ) (other : List ℕ) → IsUnsigned bits other n → (other ≡ n ∷ []) ⊎ (1 < length other)
unsigned_others bits n [] h = absurd h
unsigned_others bits n (b ∷ []) h = inl (ap (λ k. k ∷ []) (sym h.2))
unsigned_others bits n (b ∷ c ∷ bs) h = inr (omega arith)

-- one byte is the shortest where it does
pub unsigned_one : (bits n : ℕ) → n < 128 → n < 2 ^ bits → IsShortest (λ bytes. IsUnsigned bits bytes n) (n ∷ [])
unsigned_one bits n small to = record { spells = (small, to, refl); others = unsigned_others bits n }

-- each spelling of a number that takes more bytes begins with its low bits
pub unsigned_parts : (bits n : ℕ) → 128 ≤ n → (bytes : List ℕ) → IsUnsigned bits bytes n → Behind (128 + n % 128) (λ rest. IsUnsigned (bits - 7) rest (n / 128)) bytes
unsigned_parts bits n from [] h = absurd h
unsigned_parts bits n from (b ∷ []) h = absurd (omega (arith, h.0, h.2))
unsigned_parts bits n from (b ∷ c ∷ bs) h =
    let low : b ≡ 128 + n % 128 = omega (arith, h.0, h.1, h.4) in
    let high : h.3 ≡ n / 128 = omega (arith, h.0, h.1, h.4) in
    (c ∷ bs, ap (λ k. k ∷ c ∷ bs) low, subst (λ (k : ℕ). IsUnsigned (bits - 7) (c ∷ bs) k) high h.5)

-- a number is spelled by no more bytes than one that is no less
abbrev NoLonger : ℕ → ℕ → List ℕ → Type 0
NoLonger bits n bytes = (short : List ℕ) × IsUnsigned bits short n × (length short ≤ length bytes)

low_before : (bits n high b : ℕ) (bytes : List ℕ) → n + 128 ≤ b + 128 * high → b < 256 → 7 < bits → (n < 128) ⊎ (128 ≤ n) → (n / 128 ≤ high → NoLonger (bits - 7) (n / 128) bytes) → NoLonger bits n (b ∷ bytes)
low_before bits n high b bytes le less wide (inl small) ih =
    let le : 7 ≤ bits = omega (arith, wide) in
    let room : 2 ^ 7 ≤ 2 ^ bits = pow_mono le in
    (n ∷ [], (small, omega (arith, room), refl), omega arith)
low_before bits n high b bytes le less wide (inr large) ih =
    let r = ih (omega (arith, le, less)) in
    ((128 + n % 128) ∷ r.0, unsigned_long bits n large wide r.0 r.1, omega (arith, r.2))

pub no_longer_below : (bits n k : ℕ) (bytes : List ℕ) → IsUnsigned bits bytes k → n ≤ k → NoLonger bits n bytes
no_longer_below bits n k [] h le = absurd h
no_longer_below bits n k (b ∷ []) h le = (n ∷ [], (omega (arith, h.0, h.2), omega (arith, h.1, h.2), refl), omega arith)
no_longer_below bits n k (b ∷ c ∷ bs) h le =
    low_before bits n h.3 b (c ∷ bs) (omega (arith, h.4, le)) h.1 h.2 (cases_lt n 128) (λ less. no_longer_below (bits - 7) (n / 128) h.3 (c ∷ bs) h.5 less)

pub signed_bits : (bits m : ℕ) → 64 ≤ m → m < 2 ^ (bits - 1) → 7 < bits
signed_bits bits m from to = let h = more_bits 6 (bits - 1) m from to (cases_lt 6 (bits - 1)) in omega arith

pub signed_high : (bits m : ℕ) → 64 ≤ m → m < 2 ^ (bits - 1) → m / 128 < 2 ^ ((bits - 7) - 1)
signed_high bits m from to =
    let long = signed_bits bits m from to in
    let e = shorter (bits - 1) (omega arith) in
    let same : (bits - 1) - 7 ≡ (bits - 7) - 1 = omega arith in
    subst (λ (k : ℕ). m / 128 < 2 ^ k) same (omega (arith, e))

-- the value of a byte before others, by sign
signed_value : (negative : Bool) (m : ℕ) → (complement_if negative m +ℤ pos 128) ≡ (pos (128 + (if negative then 127 - m % 128 else (m % 128))) +ℤ (pos 128 *ℤ complement_if negative (m / 128)))
signed_value false m = omega (arith, ints)
signed_value true m = omega (arith, ints)

low_small : (negative : Bool) (m : ℕ) → (if negative then 127 - m % 128 else (m % 128)) < 128
low_small false m = omega arith
low_small true m = omega arith

pub signed_more : (bits m low : ℕ) (negative : Bool) → low ≡ (if negative then 127 - m % 128 else (m % 128)) → 64 ≤ m → m < 2 ^ (bits - 1) → (rest : List ℕ) → IsSigned (bits - 7) rest (complement_if negative (m / 128)) → IsSigned bits ((128 + low) ∷ rest) (complement_if negative m)
signed_more bits m low negative e from to [] h = absurd h
signed_more bits m low negative e from to (c ∷ bs) h =
    let small : low < 128 = subst (λ (k : ℕ). k < 128) (sym e) (low_small negative m) in
    (omega arith, omega arith, signed_bits bits m from to, complement_if negative (m / 128), signed_value negative m ∙ ap (λ k. pos (128 + k) +ℤ (pos 128 *ℤ complement_if negative (m / 128))) (sym e), h)

-- a byte is the shortest where it does
signed_last : (bits m : ℕ) (negative : Bool) → m < 64 → m < 2 ^ (bits - 1) → IsSigned bits ((if negative then 127 - m % 128 else (m % 128)) ∷ []) (complement_if negative m)
signed_last bits m false small to = inl (omega arith, omega arith, omega (arith, ints))
signed_last bits m true small to = inr (omega arith, omega arith, omega arith, omega (arith, ints))

signed_byte : (bits m b : ℕ) (negative : Bool) → m < 64 → IsSigned bits (b ∷ []) (complement_if negative m) → b ≡ (if negative then 127 - m % 128 else (m % 128))
signed_byte bits m b false small (inl h) = let e = h.2 in omega (arith, ints, e)
signed_byte bits m b false small (inr h) = let e = h.3 in let l = h.0 in let k = h.1 in omega (arith, ints, e, l, k)
signed_byte bits m b true small (inl h) = let e = h.2 in omega (arith, ints, e)
signed_byte bits m b true small (inr h) = let e = h.3 in omega (arith, ints, e)

signed_others : (bits m : ℕ) (negative : Bool) → m < 64 → (other : List ℕ) → IsSigned bits other (complement_if negative m) → (other ≡ (if negative then 127 - m % 128 else (m % 128)) ∷ []) ⊎ (1 < length other)
signed_others bits m negative small [] h = absurd h
signed_others bits m negative small (b ∷ []) h = inl (ap (λ k. k ∷ []) (signed_byte bits m b negative small h))
signed_others bits m negative small (b ∷ c ∷ bs) h = inr (omega arith)

pub signed_one : (bits m low : ℕ) (negative : Bool) → low ≡ (if negative then 127 - m % 128 else (m % 128)) → m < 64 → m < 2 ^ (bits - 1) → IsShortest (λ bytes. IsSigned bits bytes (complement_if negative m)) (low ∷ [])
signed_one bits m low negative e small to =
    subst (λ (k : ℕ). IsShortest (λ bytes. IsSigned bits bytes (complement_if negative m)) (k ∷ [])) (sym e)
    (record { spells = signed_last bits m negative small to; others = signed_others bits m negative small })

-- each spelling of a number that takes more bytes begins with its low bits
not_last : (bits m b : ℕ) (negative : Bool) → 64 ≤ m → IsSigned bits (b ∷ []) (complement_if negative m) → ⊥
not_last bits m b false from (inl h) = let e = h.2 in let l = h.0 in omega (arith, ints, e, l)
not_last bits m b false from (inr h) = let e = h.3 in let l = h.1 in omega (arith, ints, e, l)
not_last bits m b true from (inl h) = let e = h.2 in omega (arith, ints, e)
not_last bits m b true from (inr h) = let e = h.3 in let l = h.0 in omega (arith, ints, e, l)

low_of : (m b : ℕ) (high : ℤ) (negative : Bool) → 128 ≤ b → b < 256 → (complement_if negative m +ℤ pos 128) ≡ (pos b +ℤ (pos 128 *ℤ high)) → b ≡ 128 + (if negative then 127 - m % 128 else (m % 128))
low_of m b high false l k e = omega (arith, ints, l, k, e)
low_of m b high true l k e = omega (arith, ints, l, k, e)

high_of : (m b : ℕ) (high : ℤ) (negative : Bool) → 128 ≤ b → b < 256 → (complement_if negative m +ℤ pos 128) ≡ (pos b +ℤ (pos 128 *ℤ high)) → high ≡ complement_if negative (m / 128)
high_of m b high false l k e = omega (arith, ints, l, k, e)
high_of m b high true l k e = omega (arith, ints, l, k, e)

pub signed_parts : (bits m low : ℕ) (negative : Bool) → low ≡ (if negative then 127 - m % 128 else (m % 128)) → 64 ≤ m → (bytes : List ℕ) → IsSigned bits bytes (complement_if negative m)
    → Behind (128 + low) (λ rest. IsSigned (bits - 7) rest (complement_if negative (m / 128))) bytes
signed_parts bits m low negative e from [] h = absurd h
signed_parts bits m low negative e from (b ∷ []) h = absurd (not_last bits m b negative from h)
signed_parts bits m low negative e from (b ∷ c ∷ bs) h =
    let front : b ≡ 128 + low = low_of m b h.3 negative h.0 h.1 h.4 ∙ ap (λ k. 128 + k) (sym e) in
    let high = high_of m b h.3 negative h.0 h.1 h.4 in
    (c ∷ bs, ap (λ k. k ∷ c ∷ bs) front, subst (λ (z : ℤ). IsSigned (bits - 7) (c ∷ bs) z) high h.5)

-- values of the types
pub within_32 : (z : ℤ) → FitsSigned w32 z → IsWithin (2 ^ 31) z
within_32 (pos n) h = omega (arith, ints)
within_32 (negsuc n) h = omega (arith, ints)

pub within_64 : (z : ℤ) → FitsSigned w64 z → IsWithin (2 ^ 63) z
within_64 (pos n) h = omega (arith, ints)
within_64 (negsuc n) h = omega (arith, ints)
