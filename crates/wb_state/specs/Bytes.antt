-- Numbers in memory.
use Rattle.std.specs.Prelude.{◌≡◌, ℕ, ◌+◌, Bool, true, false, nat_le, List, length, take, drop, Option, Some, None}
use Rattle.wb_syntax.specs.Execute.{number_of, bytes_of, overwrite}
use Rattle.wb_state.specs.declared.memory.Width.{Width}
use Rattle.wb_state.specs.declared.memory.Width.TheVariants.{One, Two, Four, Eight}

-- how many bytes an access has
abbrev pub bytes_in : Width → ℕ
bytes_in One = 1
bytes_in Two = 2
bytes_in Four = 4
bytes_in Eight = 8

-- the number in so many bytes from an address on, where they are there
abbrev pub read_at : List ℕ → (at count : ℕ) → Option ℕ
read_at memory at n = elim (nat_le (at + n) (length memory)) [ true ↦ Some (number_of (take n (drop at memory))) | false ↦ None ]

-- a number written to so many bytes from an address on, where they are there
abbrev pub written_at : List ℕ → (at count number : ℕ) → Option (List ℕ)
written_at memory at n v = elim (nat_le (at + n) (length memory)) [ true ↦ Some (overwrite memory at (bytes_of n v)) | false ↦ None ]

-- a number was written, or nothing changed
abbrev pub WritesTo : Option (List ℕ) → (old : List ℕ) → Bool → (new : List ℕ) → Type 0
WritesTo want old true new = want ≡ Some new
WritesTo want old false new = (want ≡ None) × (new ≡ old)
