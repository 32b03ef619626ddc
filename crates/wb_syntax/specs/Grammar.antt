-- Grammars over bytes. Each has two meanings, given side by side: which bytes spell a value, and how bytes are read from left to right.
-- Reading takes the bytes of one spelling and leaves the rest, or stops at the first thing that is malformed or outside the profile.
use Rattle.std.specs.Prelude.{◌≡◌, ℕ, zero, suc, ◌+◌, ◌-◌, ◌*◌, ◌^◌, ◌<◌, ◌≤◌, true, false, ◌==◌, ◌&&◌, ◌⊎◌, nat_lt, nat_le, List, [], ◌∷◌, ◌++◌, length, take, drop, ℤ, pos, ◌+ℤ◌, ◌-ℤ◌, ◌*ℤ◌}
pub use Rattle.wb_syntax.specs.Table.{What, Import, Table, Start, Element, DataPart, Floating}

-- why reading stops: against the grammar, or outside the profile
pub data Fault : Type 0 where
  Malformed : Fault
  Outside : What → Fault

-- what reading gives: a value and the bytes behind it, or a fault and where it is
pub data Read (A : Type 0) : Type 0 where
  Reads : A → (left : List ℕ) → Read A
  -- the fault is at the first of the bytes that are left
  Stops : (left : List ℕ) → Fault → Read A

-- a grammar of values of one type: its spellings, and how it is read
pub record Grammar (A : Type 0) : Type 1 where
  -- these bytes spell this value
  pub Is : A → List ℕ → Type 0
  pub read : List ℕ → Read A

-- reading goes on with what was read, or has stopped
abbrev pub go_on : {A B : Type 0} → Read A → (A → List ℕ → Read B) → Read B
go_on (Reads x left) next = next x left
go_on (Stops left fault) next = Stops left fault

-- the bytes are two parts, one after the other
abbrev pub Splits : List ℕ → (List ℕ → Type 0) → (List ℕ → Type 0) → Type 0
Splits bytes P Q = (front back : List ℕ) × P front × Q back × (bytes ≡ front ++ back)

-- this value, without bytes
abbrev pub exact : {A : Type 0} → A → Grammar A
exact x = record { Is = λ y bytes. (y ≡ x) × (bytes ≡ []); read = λ bytes. Reads x bytes }

-- nothing may stand here
abbrev pub refused : {A : Type 0} → Fault → Grammar A
refused fault = record { Is = λ x bytes. ⊥; read = λ bytes. Stops bytes fault }

-- one grammar after another, which may look at what was read
abbrev pub followed : {A B : Type 0} → Grammar A → (A → Grammar B) → Grammar B
followed {A = A} g next = record {
  Is = λ y bytes. (x : A) × Splits bytes (g.Is x) ((next x).Is y);
  read = λ bytes. go_on (g.read bytes) (λ x left. (next x).read left);
}

-- the same bytes, for another value
abbrev pub mapped : {A B : Type 0} → (A → B) → Grammar A → Grammar B
mapped f g = followed g (λ x. exact (f x))

-- the next byte says what follows it
abbrev pub by_first : {A : Type 0} → (ℕ → Grammar A) → List ℕ → Read A
by_first next [] = Stops [] Malformed
by_first next (b ∷ bytes) = (next b).read bytes

-- a byte, and what it lets follow
abbrev pub by_byte : {A : Type 0} → (ℕ → Grammar A) → Grammar A
by_byte next = record {
  Is = λ x bytes. (b : ℕ) × (rest : List ℕ) × (bytes ≡ b ∷ rest) × (next b).Is x rest;
  read = by_first next;
}

-- by cases on a byte, of which no other may stand here
pub record Case (A : Type 0) : Type 1 where
  pub byte : ℕ
  pub follows : Grammar A

-- this grammar behind this byte
abbrev pub case : {A : Type 0} → ℕ → Grammar A → Case A
case b g = record { byte = b; follows = g }

-- what the first of the cases of this byte lets follow
abbrev pub among : {A : Type 0} → List (Case A) → ℕ → Grammar A
among [] b = refused Malformed
among (c ∷ cs) b = elim (b == c.byte) [ true ↦ c.follows | false ↦ among cs b ]

-- one of these cases
abbrev pub one_of : {A : Type 0} → List (Case A) → Grammar A
one_of cases = by_byte (among cases)

-- this value behind this byte
abbrev pub behind : {A : Type 0} → ℕ → Grammar A → Grammar A
behind b g = one_of (case b g ∷ [])

-- ---- numbers (5.2.2): every allowed spelling, of at most ceil (N / 7) bytes

-- an unsigned number of N bits: a byte below 128 is the last, one from 128 on has the low seven bits
abbrev pub IsUnsigned : ℕ → List ℕ → ℕ → Type 0
IsUnsigned bits [] n = ⊥
IsUnsigned bits (b ∷ []) n = (b < 128) × (b < 2 ^ bits) × (n ≡ b)
IsUnsigned bits (b ∷ c ∷ bs) n = (128 ≤ b) × (b < 256) × (7 < bits) × (high : ℕ) × (n + 128 ≡ b + 128 * high) × IsUnsigned (bits - 7) (c ∷ bs) high

-- a signed number of N bits, in two's complement
abbrev pub IsSigned : ℕ → List ℕ → ℤ → Type 0
IsSigned bits [] z = ⊥
IsSigned bits (b ∷ []) z = ((b < 64) × (b < 2 ^ (bits - 1)) × (z ≡ pos b)) ⊎ ((64 ≤ b) × (b < 128) × (128 ≤ b + 2 ^ (bits - 1)) × ((z +ℤ pos 128) ≡ pos b))
IsSigned bits (b ∷ c ∷ bs) z = (128 ≤ b) × (b < 256) × (7 < bits) × (high : ℤ) × ((z +ℤ pos 128) ≡ (pos b +ℤ (pos 128 *ℤ high))) × IsSigned (bits - 7) (c ∷ bs) high

-- an unsigned number of N bits, read from its first byte on
abbrev pub read_unsigned : ℕ → List ℕ → Read ℕ
read_unsigned bits [] = Stops [] Malformed
read_unsigned bits (b ∷ bs) = elim (nat_lt b 128) [
  | true ↦ elim (nat_lt b (2 ^ bits)) [ true ↦ Reads b bs | false ↦ Stops bs Malformed ]
  | false ↦ elim (nat_lt b 256 && nat_lt 7 bits) [
    | true ↦ go_on (read_unsigned (bits - 7) bs) (λ high left. Reads (b - 128 + 128 * high) left)
    | false ↦ Stops bs Malformed
  ]
]

-- a signed number of N bits, read from its first byte on
abbrev pub read_signed : ℕ → List ℕ → Read ℤ
read_signed bits [] = Stops [] Malformed
read_signed bits (b ∷ bs) = elim (nat_lt b 128) [
  | true ↦ elim (nat_lt b 64) [
    | true ↦ elim (nat_lt b (2 ^ (bits - 1))) [ true ↦ Reads (pos b) bs | false ↦ Stops bs Malformed ]
    | false ↦ elim (nat_le 128 (b + 2 ^ (bits - 1))) [ true ↦ Reads (pos b -ℤ pos 128) bs | false ↦ Stops bs Malformed ]
  ]
  | false ↦ elim (nat_lt b 256 && nat_lt 7 bits) [
    | true ↦ go_on (read_signed (bits - 7) bs) (λ high left. Reads (pos (b - 128) +ℤ (pos 128 *ℤ high)) left)
    | false ↦ Stops bs Malformed
  ]
]

-- unsigned numbers of N bits
abbrev pub unsigned_number : ℕ → Grammar ℕ
unsigned_number bits = record { Is = λ n bytes. IsUnsigned bits bytes n; read = read_unsigned bits }

-- signed numbers of N bits
abbrev pub signed_number : ℕ → Grammar ℤ
signed_number bits = record { Is = λ z bytes. IsSigned bits bytes z; read = read_signed bits }

-- indices and sizes
abbrev pub index : Grammar ℕ
index = unsigned_number 32

-- ---- vectors (5.1.3) and sizes

-- so many, one after another
abbrev pub times : {A : Type 0} → ℕ → Grammar A → Grammar (List A)
times zero g = exact []
times (suc n) g = followed g (λ x. mapped (λ xs. x ∷ xs) (times n g))

-- a vector: its length, then its elements. A length that is too great is no fault itself: the first element that is not there is.
abbrev pub vec : {A : Type 0} → Grammar A → Grammar (List A)
vec g = followed index (λ n. times n g)

-- what was read of so many bytes, which have to be read whole
abbrev pub at_end : {A : Type 0} → Read A → List ℕ → Read A
at_end (Reads x []) rest = Reads x rest
at_end (Reads x (b ∷ bytes)) rest = Stops rest Malformed
at_end (Stops left fault) rest = Stops left fault

-- what is spelled by so many bytes and no others
abbrev pub exactly : {A : Type 0} → ℕ → Grammar A → Grammar A
exactly n g = record {
  Is = λ x bytes. (length bytes ≡ n) × g.Is x bytes;
  read = λ bytes. elim (nat_le n (length bytes)) [ true ↦ at_end (g.read (take n bytes)) (drop n bytes) | false ↦ Stops bytes Malformed ];
}

-- contents behind their size: a size that is too great is at the size, contents that end early or late are after the contents
abbrev pub sized : {A : Type 0} → Grammar A → Grammar A
sized g = followed index (λ n. exactly n g)

-- so many bytes, which begin with this; what follows is passed over
abbrev pub begins : {A : Type 0} → ℕ → Grammar A → Grammar A
begins n g = record {
  Is = λ x bytes. (length bytes ≡ n) × Splits bytes (g.Is x) (λ back. Unit {0});
  read = λ bytes. elim (nat_le n (length bytes)) [ true ↦ go_on (g.read (take n bytes)) (λ x left. Reads x (drop n bytes)) | false ↦ Stops bytes Malformed ];
}

-- a fault within is a fault at the first byte
abbrev pub placed : {A : Type 0} → List ℕ → Read A → Read A
placed bytes (Reads x left) = Reads x left
placed bytes (Stops left fault) = Stops bytes fault

-- the same spellings, with each fault at the first byte
abbrev pub at_start : {A : Type 0} → Grammar A → Grammar A
at_start g = record { Is = g.Is; read = λ bytes. placed bytes (g.read bytes) }
