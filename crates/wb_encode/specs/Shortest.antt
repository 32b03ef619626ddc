-- Which of the spellings of a module is written: the shortest one.
use Rattle.std.specs.Prelude.{◌≡◌, ℕ, ◌<◌, List, length, ◌⊎◌}
use Rattle.wb_syntax.specs.declared.syntax.Module.{Module}
use Rattle.wb_syntax.specs.Binary.{Section, Custom, Types, FuncTypes, Memories, Globals, Exports, Codes, Encodes}

-- the one shortest list of bytes that spells something: every other one is longer
pub record IsShortest (Spells : List ℕ → Type 0) (bytes : List ℕ) : Type 0 where
  pub spells : Spells bytes
  pub others : (other : List ℕ) → Spells other → (other ≡ bytes) ⊎ (length bytes < length other)

-- these bytes encode this module, and all others that encode it are longer
abbrev pub IsCanonical : Module → List ℕ → Type 0
IsCanonical m bytes = IsShortest (Encodes m) bytes

-- neither an empty section nor a custom one
abbrev pub HasItems : Section → Type 0
HasItems Custom = ⊥
HasItems (Types xs) = 0 < length xs
HasItems (FuncTypes xs) = 0 < length xs
HasItems (Memories xs) = 0 < length xs
HasItems (Globals xs) = 0 < length xs
HasItems (Exports xs) = 0 < length xs
HasItems (Codes xs) = 0 < length xs
