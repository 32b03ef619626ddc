-- Numbers in memory (the standard, 4.2.8, 4.3.1): what was stored, and all else.
use Rattle.std.specs.Prelude.{◌≡◌, ◌⊎◌, ℕ, ◌+◌, ◌≤◌, ◌<◌, ◌^◌, List, length, take, drop, slice_get}
use Rattle.wb_syntax.specs.Execute.{number_of, bytes_of, overwrite}

-- the number in so many bytes from an address on
abbrev pub number_in : (memory : List ℕ) (at count : ℕ) → ℕ
number_in memory at count = number_of (take count (drop at memory))

-- memory with a number in so many bytes from an address on
abbrev pub with_number : (memory : List ℕ) (at count n : ℕ) → List ℕ
with_number memory at count n = overwrite memory at (bytes_of count n)

-- ---- laws, each of a number that is stored within memory

-- it is loaded again, where it has no more bytes
abbrev pub StoredIsLoaded : Type 0
StoredIsLoaded = (memory : List ℕ) (at count n : ℕ) → at + count ≤ length memory → n < 256 ^ count → number_in (with_number memory at count n) at count ≡ n

-- memory has as many bytes as before
abbrev pub SizeStays : Type 0
SizeStays = (memory : List ℕ) (at count n : ℕ) → at + count ≤ length memory → length (with_number memory at count n) ≡ length memory

-- bytes before and behind it stay
abbrev pub BytesStay : Type 0
BytesStay = (memory : List ℕ) (at count n i : ℕ) → at + count ≤ length memory → ((i < at) ⊎ (at + count ≤ i)) →
    slice_get (with_number memory at count n) i ≡ slice_get memory i

-- numbers before and behind it stay
abbrev pub NumbersStay : Type 0
NumbersStay = (memory : List ℕ) (at count n from k : ℕ) → at + count ≤ length memory → ((from + k ≤ at) ⊎ (at + count ≤ from)) →
    number_in (with_number memory at count n) from k ≡ number_in memory from k
