-- Reading a signed number and its spellings agree.
use Rattle.std.proofs.Common.{◌≡◌, ℕ, ◌+◌, ◌-◌, ◌^◌, ◌<◌, ◌≤◌, ℤ, pos, refl, sym, ap, ◌∙◌, arith}
use Rattle.std.specs.Prelude.{Bool, true, false, ◌&&◌, nat_lt, nat_le, List, [], ◌∷◌, ◌++◌, ◌+ℤ◌, ◌-ℤ◌, ◌*ℤ◌}
use mathlib.Core.Logic.{inl, inr}
use Rattle.std.proofs.lemmas.Int.{ints}
use Rattle.std.proofs.lemmas.Bool.{ltb-true, ltb-false, leb-true, lt-ltb, le-ltb, le-leb, and_parts}
use Rattle.wb_syntax.specs.Grammar.{Malformed, Read, Reads, Stops, go_on, IsSigned, read_signed, signed_number}
use Rattle.wb_syntax.specs.Laws.{IsLawful}
use Rattle.wb_syntax.proofs.Lawful.{reads_value, reads_left, stops_not, went_on}

-- how a last byte is read, and one before the last
low : (bits b : ℕ) → List ℕ → Bool → Read ℤ
low bits b back t = elim t [
  | true ↦ elim (nat_lt b (2 ^ (bits - 1))) [ true ↦ Reads (pos b) back | false ↦ Stops back Malformed ]
  | false ↦ elim (nat_le 128 (b + 2 ^ (bits - 1))) [ true ↦ Reads (pos b -ℤ pos 128) back | false ↦ Stops back Malformed ]
]

high : (bits b : ℕ) → List ℕ → Bool → Read ℤ
high bits b back t = elim t [
  | true ↦ go_on (read_signed (bits - 7) back) (λ high left. Reads (pos (b - 128) +ℤ (pos 128 *ℤ high)) left)
  | false ↦ Stops back Malformed
]

pick : Read ℤ → Read ℤ → Bool → Read ℤ
pick r s t = elim t [ true ↦ r | false ↦ s ]

unfolds : (bits b : ℕ) (back : List ℕ) → read_signed bits (b ∷ back) ≡ pick (low bits b back (nat_lt b 64)) (high bits b back (nat_lt b 256 && nat_lt 7 bits)) (nat_lt b 128)
unfolding low high pick
unfolds bits b back = refl

both_hold : (s t : Bool) → s ≡ true → t ≡ true → (s && t) ≡ true
both_hold s t e f = cc

last_finds : (z : ℤ) (bits b : ℕ) (back : List ℕ) → IsSigned bits (b ∷ []) z → read_signed bits (b ∷ back) ≡ Reads z back
unfolding low high pick
last_finds z bits b back (inl h) =
    unfolds bits b back
    ∙ ap (pick (low bits b back (nat_lt b 64)) (high bits b back (nat_lt b 256 && nat_lt 7 bits))) (lt-ltb b 128 (omega (arith, h.0)))
    ∙ ap (low bits b back) (lt-ltb b 64 h.0)
    ∙ ap (λ t. elim t [ true ↦ Reads (pos b) back | false ↦ Stops back Malformed ]) (lt-ltb b (2 ^ (bits - 1)) h.1)
    ∙ ap (λ y. Reads y back) (sym h.2)
last_finds z bits b back (inr h) =
    let value : (pos b -ℤ pos 128) ≡ z = omega (arith, ints, h.3) in
    unfolds bits b back
    ∙ ap (pick (low bits b back (nat_lt b 64)) (high bits b back (nat_lt b 256 && nat_lt 7 bits))) (lt-ltb b 128 h.1)
    ∙ ap (low bits b back) (le-ltb b 64 h.0)
    ∙ ap (λ t. elim t [ true ↦ Reads (pos b -ℤ pos 128) back | false ↦ Stops back Malformed ]) (le-leb 128 (b + 2 ^ (bits - 1)) h.2)
    ∙ ap (λ y. Reads y back) value

more_value : (z high : ℤ) (b : ℕ) → 128 ≤ b → (z +ℤ pos 128) ≡ (pos b +ℤ (pos 128 *ℤ high)) → (pos (b - 128) +ℤ (pos 128 *ℤ high)) ≡ z
more_value z high b l e = omega (arith, ints, l, e)

more_whole : (z high : ℤ) (b : ℕ) → 128 ≤ b → (pos (b - 128) +ℤ (pos 128 *ℤ high)) ≡ z → (z +ℤ pos 128) ≡ (pos b +ℤ (pos 128 *ℤ high))
more_whole z high b l e = omega (arith, ints, l, e)

signed_finds : (z : ℤ) (bits : ℕ) (front back : List ℕ) → IsSigned bits front z → read_signed bits (front ++ back) ≡ Reads z back
unfolding low high pick
signed_finds z bits [] back h = absurd h
signed_finds z bits (b ∷ []) back h = last_finds z bits b back h
signed_finds z bits (b ∷ c ∷ bs) back h =
    unfolds bits b ((c ∷ bs) ++ back)
    ∙ ap (pick (low bits b ((c ∷ bs) ++ back) (nat_lt b 64)) (high bits b ((c ∷ bs) ++ back) (nat_lt b 256 && nat_lt 7 bits))) (le-ltb b 128 h.0)
    ∙ ap (high bits b ((c ∷ bs) ++ back)) (both_hold (nat_lt b 256) (nat_lt 7 bits) (lt-ltb b 256 h.1) (lt-ltb 7 bits h.2))
    ∙ ap (λ r. go_on r (λ high left. Reads (pos (b - 128) +ℤ (pos 128 *ℤ high)) left)) (signed_finds h.3 (bits - 7) (c ∷ bs) back h.5)
    ∙ ap (λ k. Reads k back) (more_value z h.3 b h.0 h.4)

Only : ℤ → ℕ → List ℕ → List ℕ → Type 0
Only z bits bytes left = (front : List ℕ) × IsSigned bits front z × (bytes ≡ front ++ left)

longer : (z : ℤ) (bits : ℕ) (front : List ℕ) (b : ℕ) (high : ℤ) → IsSigned (bits - 7) front high → 128 ≤ b → b < 256 → 7 < bits → (z +ℤ pos 128) ≡ (pos b +ℤ (pos 128 *ℤ high)) → IsSigned bits (b ∷ front) z
longer z bits [] b high h l less wide e = absurd h
longer z bits (c ∷ cs) b high h l less wide e = (l, less, wide, high, e, h)

small_only : (z : ℤ) (bits b : ℕ) (bs left : List ℕ) (t : Bool) → nat_lt b (2 ^ (bits - 1)) ≡ t → b < 64 → elim t [ true ↦ Reads (pos b) bs | false ↦ Stops bs Malformed ] ≡ Reads z left → Only z bits (b ∷ bs) left
unfolding Only
small_only z bits b bs left true e small h = (b ∷ [], inl (small, ltb-true b (2 ^ (bits - 1)) e, sym (reads_value (pos b) z bs left h)), ap (λ l. b ∷ l) (reads_left (pos b) z bs left h))
small_only z bits b bs left false e small h = absurd (stops_not z bs left Malformed h)

negative_only : (z : ℤ) (bits b : ℕ) (bs left : List ℕ) (t : Bool) → nat_le 128 (b + 2 ^ (bits - 1)) ≡ t → 64 ≤ b → b < 128 → elim t [ true ↦ Reads (pos b -ℤ pos 128) bs | false ↦ Stops bs Malformed ] ≡ Reads z left → Only z bits (b ∷ bs) left
unfolding Only
negative_only z bits b bs left true e large small h =
    let value : (pos b -ℤ pos 128) ≡ z = reads_value (pos b -ℤ pos 128) z bs left h in
    let whole : (z +ℤ pos 128) ≡ pos b = omega (arith, ints, value) in
    (b ∷ [], inr (large, small, leb-true 128 (b + 2 ^ (bits - 1)) e, whole), ap (λ l. b ∷ l) (reads_left (pos b -ℤ pos 128) z bs left h))
negative_only z bits b bs left false e large small h = absurd (stops_not z bs left Malformed h)

low_only : (z : ℤ) (bits b : ℕ) (bs left : List ℕ) (t : Bool) → nat_lt b 64 ≡ t → b < 128 → low bits b bs t ≡ Reads z left → Only z bits (b ∷ bs) left
unfolding low
low_only z bits b bs left true e small h = small_only z bits b bs left (nat_lt b (2 ^ (bits - 1))) refl (ltb-true b 64 e) h
low_only z bits b bs left false e small h = negative_only z bits b bs left (nat_le 128 (b + 2 ^ (bits - 1))) refl (ltb-false b 64 e) small h

high_only : (z : ℤ) (bits b : ℕ) (bs left : List ℕ) (t : Bool) → (nat_lt b 256 && nat_lt 7 bits) ≡ t → 128 ≤ b → ((high : ℤ) (rest : List ℕ) → read_signed (bits - 7) bs ≡ Reads high rest → Only high (bits - 7) bs rest) → high bits b bs t ≡ Reads z left → Only z bits (b ∷ bs) left
unfolding Only high
high_only z bits b bs left true e large ih h =
    let next = λ (high : ℤ) (left : List ℕ). Reads (pos (b - 128) +ℤ (pos 128 *ℤ high)) left in
    let w = went_on (read_signed (bits - 7) bs) next z left h in
    let o = ih w.0 w.1 w.2 in
    let parts = and_parts (nat_lt b 256) (nat_lt 7 bits) e in
    let whole = more_whole z w.0 b large (reads_value (pos (b - 128) +ℤ (pos 128 *ℤ w.0)) z w.1 left w.3) in
    (b ∷ o.0, longer z bits o.0 b w.0 o.1 large (ltb-true b 256 parts.0) (ltb-true 7 bits parts.1) whole, ap (λ l. b ∷ l) (o.2 ∙ ap (λ l. o.0 ++ l) (reads_left (pos (b - 128) +ℤ (pos 128 *ℤ w.0)) z w.1 left w.3)))
high_only z bits b bs left false e large ih h = absurd (stops_not z bs left Malformed h)

byte_only : (z : ℤ) (bits b : ℕ) (bs left : List ℕ) (t : Bool) → nat_lt b 128 ≡ t → ((high : ℤ) (rest : List ℕ) → read_signed (bits - 7) bs ≡ Reads high rest → Only high (bits - 7) bs rest) → pick (low bits b bs (nat_lt b 64)) (high bits b bs (nat_lt b 256 && nat_lt 7 bits)) t ≡ Reads z left → Only z bits (b ∷ bs) left
unfolding pick
byte_only z bits b bs left true e ih h = low_only z bits b bs left (nat_lt b 64) refl (ltb-true b 128 e) h
byte_only z bits b bs left false e ih h = high_only z bits b bs left (nat_lt b 256 && nat_lt 7 bits) refl (ltb-false b 128 e) ih h

signed_only : (z : ℤ) (bits : ℕ) (bytes left : List ℕ) → read_signed bits bytes ≡ Reads z left → Only z bits bytes left
signed_only z bits [] left h = absurd (stops_not z [] left Malformed h)
signed_only z bits (b ∷ bs) left h = byte_only z bits b bs left (nat_lt b 128) refl (λ high rest e. signed_only high (bits - 7) bs rest e) (sym (unfolds bits b bs) ∙ h)

pub signed_lawful : (bits : ℕ) → IsLawful (signed_number bits)
unfolding Only
signed_lawful bits = record {
  finds = λ z front back h. signed_finds z bits front back h;
  only = λ z bytes left h. signed_only z bits bytes left h;
}
