-- Reading a number and its spellings agree.
use Rattle.std.proofs.Common.{◌≡◌, ℕ, ◌+◌, ◌-◌, ◌*◌, ◌^◌, ◌<◌, ◌≤◌, refl, sym, ap, ◌∙◌, arith}
use Rattle.std.specs.Prelude.{Bool, true, false, ◌&&◌, nat_lt, List, [], ◌∷◌, ◌++◌}
use Rattle.std.proofs.lemmas.Bool.{ltb-true, ltb-false, lt-ltb, le-ltb, and_parts}
use Rattle.wb_syntax.specs.Grammar.{Malformed, Read, Reads, Stops, go_on, IsUnsigned, read_unsigned, unsigned_number}
use Rattle.wb_syntax.specs.Laws.{IsLawful}
use Rattle.wb_syntax.proofs.Lawful.{reads_value, reads_left, stops_not, went_on}

-- the last byte, and one before the last
last_byte : (bits b : ℕ) (back : List ℕ) → Bool → Read ℕ
last_byte bits b back t = elim t [ true ↦ Reads b back | false ↦ Stops back Malformed ]

both_hold : (s t : Bool) → s ≡ true → t ≡ true → (s && t) ≡ true
both_hold s t e f = cc

unsigned_finds : (n : ℕ) (bits : ℕ) (front back : List ℕ) → IsUnsigned bits front n → read_unsigned bits (front ++ back) ≡ Reads n back
unsigned_finds n bits [] back h = absurd h
unsigned_finds n bits (b ∷ []) back h =
    ap (λ t. elim t [ true ↦ elim (nat_lt b (2 ^ bits)) [ true ↦ Reads b back | false ↦ Stops back Malformed ] | false ↦ elim (nat_lt b 256 && nat_lt 7 bits) [ true ↦ go_on (read_unsigned (bits - 7) back) (λ high left. Reads (b - 128 + 128 * high) left) | false ↦ Stops back Malformed ] ]) (lt-ltb b 128 h.0)
    ∙ ap (λ t. elim t [ true ↦ Reads b back | false ↦ Stops back Malformed ]) (lt-ltb b (2 ^ bits) h.1)
    ∙ ap (λ k. Reads k back) (sym h.2)
unsigned_finds n bits (b ∷ c ∷ bs) back h =
    let high = h.3 in
    let value : b - 128 + 128 * high ≡ n = omega (arith, h.0, h.4) in
    ap (λ t. elim t [ true ↦ elim (nat_lt b (2 ^ bits)) [ true ↦ Reads b ((c ∷ bs) ++ back) | false ↦ Stops ((c ∷ bs) ++ back) Malformed ] | false ↦ elim (nat_lt b 256 && nat_lt 7 bits) [ true ↦ go_on (read_unsigned (bits - 7) ((c ∷ bs) ++ back)) (λ high left. Reads (b - 128 + 128 * high) left) | false ↦ Stops ((c ∷ bs) ++ back) Malformed ] ]) (le-ltb b 128 h.0)
    ∙ ap (λ t. elim t [ true ↦ go_on (read_unsigned (bits - 7) ((c ∷ bs) ++ back)) (λ high left. Reads (b - 128 + 128 * high) left) | false ↦ Stops ((c ∷ bs) ++ back) Malformed ]) (both_hold (nat_lt b 256) (nat_lt 7 bits) (lt-ltb b 256 h.1) (lt-ltb 7 bits h.2))
    ∙ ap (λ r. go_on r (λ high left. Reads (b - 128 + 128 * high) left)) (unsigned_finds high (bits - 7) (c ∷ bs) back h.5)
    ∙ ap (λ k. Reads k back) value

-- a spelling has a byte
unsigned_longer : (n bits : ℕ) (front : List ℕ) (b : ℕ) (high : ℕ) → IsUnsigned (bits - 7) front high → 128 ≤ b → b < 256 → 7 < bits → n + 128 ≡ b + 128 * high → IsUnsigned bits (b ∷ front) n
unsigned_longer n bits [] b high h low less wide e = absurd h
unsigned_longer n bits (c ∷ cs) b high h low less wide e = (low, less, wide, high, e, h)

Only : ℕ → ℕ → List ℕ → List ℕ → Type 0
Only n bits bytes left = (front : List ℕ) × IsUnsigned bits front n × (bytes ≡ front ++ left)

last_only : (n bits b : ℕ) (bs left : List ℕ) (t : Bool) → nat_lt b (2 ^ bits) ≡ t → b < 128 → elim t [ true ↦ Reads b bs | false ↦ Stops bs Malformed ] ≡ Reads n left → Only n bits (b ∷ bs) left
unfolding Only
last_only n bits b bs left true e small h = (b ∷ [], (small, ltb-true b (2 ^ bits) e, sym (reads_value b n bs left h)), ap (λ l. b ∷ l) (reads_left b n bs left h))
last_only n bits b bs left false e small h = absurd (stops_not n bs left Malformed h)

more_only : (n bits b : ℕ) (bs left : List ℕ) (t : Bool) → (nat_lt b 256 && nat_lt 7 bits) ≡ t → 128 ≤ b → ((high : ℕ) (rest : List ℕ) → read_unsigned (bits - 7) bs ≡ Reads high rest → Only high (bits - 7) bs rest) → elim t [ true ↦ go_on (read_unsigned (bits - 7) bs) (λ high left. Reads (b - 128 + 128 * high) left) | false ↦ Stops bs Malformed ] ≡ Reads n left → Only n bits (b ∷ bs) left
unfolding Only
more_only n bits b bs left true e large ih h =
    let w = went_on (read_unsigned (bits - 7) bs) (λ high left. Reads (b - 128 + 128 * high) left) n left h in
    let o = ih w.0 w.1 w.2 in
    let value : b - 128 + 128 * w.0 ≡ n = reads_value (b - 128 + 128 * w.0) n w.1 left w.3 in
    let whole : n + 128 ≡ b + 128 * w.0 = omega (arith, value, large) in
    let parts = and_parts (nat_lt b 256) (nat_lt 7 bits) e in
    (b ∷ o.0, unsigned_longer n bits o.0 b w.0 o.1 large (ltb-true b 256 parts.0) (ltb-true 7 bits parts.1) whole, ap (λ l. b ∷ l) (o.2 ∙ ap (λ l. o.0 ++ l) (reads_left (b - 128 + 128 * w.0) n w.1 left w.3)))
more_only n bits b bs left false e large ih h = absurd (stops_not n bs left Malformed h)

byte_only : (n bits b : ℕ) (bs left : List ℕ) (t : Bool) → nat_lt b 128 ≡ t → ((high : ℕ) (rest : List ℕ) → read_unsigned (bits - 7) bs ≡ Reads high rest → Only high (bits - 7) bs rest) → elim t [ true ↦ elim (nat_lt b (2 ^ bits)) [ true ↦ Reads b bs | false ↦ Stops bs Malformed ] | false ↦ elim (nat_lt b 256 && nat_lt 7 bits) [ true ↦ go_on (read_unsigned (bits - 7) bs) (λ high left. Reads (b - 128 + 128 * high) left) | false ↦ Stops bs Malformed ] ] ≡ Reads n left → Only n bits (b ∷ bs) left
byte_only n bits b bs left true e ih h = last_only n bits b bs left (nat_lt b (2 ^ bits)) refl (ltb-true b 128 e) h
byte_only n bits b bs left false e ih h = more_only n bits b bs left (nat_lt b 256 && nat_lt 7 bits) refl (ltb-false b 128 e) ih h

unsigned_only : (n bits : ℕ) (bytes left : List ℕ) → read_unsigned bits bytes ≡ Reads n left → Only n bits bytes left
unsigned_only n bits [] left h = absurd (stops_not n [] left Malformed h)
unsigned_only n bits (b ∷ bs) left h = byte_only n bits b bs left (nat_lt b 128) refl (λ high rest e. unsigned_only high (bits - 7) bs rest e) h

pub unsigned_lawful : (bits : ℕ) → IsLawful (unsigned_number bits)
unfolding Only
unsigned_lawful bits = record {
  finds = λ n front back h. unsigned_finds n bits front back h;
  only = λ n bytes left h. unsigned_only n bits bytes left h;
}
