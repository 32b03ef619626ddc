-- Locals and globals that are set (the standard, 4.4.3): a list of words with one in place of another.
use Rattle.std.specs.Prelude.{◌≡◌, ◌≢◌, ℕ, ◌<◌, List, length, Some, slice_get, slice_set}
use Rattle.wb_syntax.specs.Execute.{Word}

-- the word that was set is read
abbrev pub SetIsRead : Type 0
SetIsRead = (ws : List Word) (x : ℕ) (w : Word) → x < length ws → slice_get (slice_set ws x w) x ≡ Some w

-- the others stay
abbrev pub OthersAreRead : Type 0
OthersAreRead = (ws : List Word) (x y : ℕ) (w : Word) → x ≢ y → slice_get (slice_set ws x w) y ≡ slice_get ws y

-- there are as many as before
abbrev pub CountStays : Type 0
CountStays = (ws : List Word) (x : ℕ) (w : Word) → length (slice_set ws x w) ≡ length ws
