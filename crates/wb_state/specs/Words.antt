-- Words as the definition of execution has them.
use Rattle.std.specs.Prelude.{◌≡◌, ℕ, Bool, true, false, List, Option, Some, None, slice_get, slice_set}
use Rattle.wb_syntax.specs.declared.syntax.NumType.{NumType}
use Rattle.wb_syntax.specs.declared.syntax.NumType.TheVariants.{I32, I64}
use Rattle.wb_syntax.specs.Execute.{Word, word, same_type}
use Rattle.wb_state.specs.declared.words.Word.{Word as Held}
use Rattle.wb_state.specs.declared.words.Word.TheVariants.{I32 as Narrow, I64 as Wide}

-- the word that is held
abbrev pub seen : Held → Word
seen (Narrow n) = word I32 n
seen (Wide n) = word I64 n

-- its type
abbrev pub type_of : Word → NumType
type_of w = w.type

-- the bits of a word of this type
abbrev pub bits_as : NumType → Word → Option ℕ
bits_as t w = elim (same_type t w.type) [ true ↦ Some w.bits | false ↦ None ]

-- a word of this type is held
abbrev pub holds : NumType → Option Word → Bool
holds t None = false
holds t (Some v) = same_type v.type t

-- the words with one set, where it is there and has the type of the new one
abbrev pub replaced : List Word → ℕ → Word → Option (List Word)
replaced ws x w = elim (holds w.type (slice_get ws x)) [ true ↦ Some (slice_set ws x w) | false ↦ None ]

-- a word was set, or nothing changed
abbrev pub SetsTo : Option (List Word) → (old : List Word) → Bool → (new : List Word) → Type 0
SetsTo want old true new = want ≡ Some new
SetsTo want old false new = (want ≡ None) × (new ≡ old)
