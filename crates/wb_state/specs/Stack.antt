-- A stack of operands with a floor.
use Rattle.std.specs.Prelude.{◌≡◌, ℕ, ◌+◌, ◌-◌, ◌<◌, ◌≤◌, ◌++◌, Bool, true, false, List, [], ◌∷◌, length, take, drop, reverse, map, Option, Some, None}
use Rattle.std.specs.Borrow.{Bor}
use Rattle.wb_syntax.specs.declared.syntax.NumType.{NumType}
use Rattle.wb_syntax.specs.Execute.{Word}
use Rattle.wb_state.specs.declared.words.Word.{Word as Held}
use Rattle.wb_state.specs.Words.{seen, bits_as}

-- words with the top first
pub record Stack : Type 0 where
  -- those above the floor
  pub above : List Word
  -- those below it
  pub below : List Word
  -- how many there may be
  pub most : ℕ
  -- for how many there is room, what is reserved counted
  pub room : ℕ

-- the stack of these words, the top last, with a floor
abbrev pub stack_of : List Held → (floor most room : ℕ) → Stack
stack_of ws f n k = record { above = reverse (map seen (drop f ws)); below = reverse (map seen (take f ws)); most = n; room = k }

-- no words
abbrev pub empty : ℕ → Stack
empty n = record { above = []; below = []; most = n; room = n }

-- how many words there are
abbrev pub height_of : Stack → ℕ
height_of s = length s.above + length s.below

-- with a word on top
abbrev pub put : Word → Stack → Stack
put w s = record s { above = w ∷ s.above }

-- these words above the floor
abbrev pub with_above : Stack → List Word → Stack
with_above s ws = record s { above = ws }

-- there are more words than there may be
abbrev pub IsOver : Stack → Type 0
IsOver s = s.most < height_of s

-- the bits of a word that was taken, and what is left
pub record Taken : Type 0 where
  pub bits : ℕ
  pub left : Stack

-- these bits were taken
abbrev pub taken : Option ℕ → Stack → Option Taken
taken None left = None
taken (Some n) left = Some (record { bits = n; left = left })

-- the topmost of these words, where it is of this type
abbrev pub take_from : NumType → Stack → List Word → Option Taken
take_from t s [] = None
take_from t s (w ∷ ws) = taken (bits_as t w) (with_above s ws)

-- the topmost word, where it is of this type
abbrev pub take_word : NumType → Stack → Option Taken
take_word t s = take_from t s s.above

-- the topmost word of any type was taken, or there is none
abbrev pub TakesAny : Option Held → (old new : Stack) → Type 0
TakesAny None old new = (old.above ≡ []) × (new ≡ old)
TakesAny (Some w) old new = old ≡ put (seen w) new

-- a word was taken, or there is none
abbrev pub TakesTo : Option Taken → Option ℕ → (new : Stack) → Type 0
TakesTo want (Some n) new = want ≡ Some (record { bits = n; left = new })
TakesTo want None new = want ≡ None

-- a word was put, or there is no room for it
abbrev pub PutsTo : Stack → Bool → (new : Stack) → Type 0
PutsTo want true new = new ≡ want
PutsTo want false new = IsOver want

-- ---- the floor

-- the last so many of a list
abbrev pub lowest : {A : Type 0} → ℕ → List A → List A
lowest n xs = drop (length xs - n) xs

-- the floor on top of all words
abbrev pub raised : Stack → Stack
raised s = record s { above = []; below = s.above ++ s.below }

-- the lowest words, up to this height, with the floor at that height
abbrev pub cut : (height floor : ℕ) → Stack → Stack
cut h f s = record s { above = take (h - f) (lowest h (s.above ++ s.below)); below = lowest f (s.above ++ s.below) }

-- room for so many words was taken away, or there is not as much
abbrev pub Reserves : ℕ → (old : Stack) → Bool → (new : Stack) → Type 0
Reserves n old true new = (height_of old + n ≤ old.most) × (new ≡ record old { most = old.most - n })
Reserves n old false new = (old.most < height_of old + n) × (new ≡ old)

-- these are the topmost words, the top last, or there are not so many
abbrev pub AreArguments : Stack → ℕ → Option (Bor (List Held)) → Type 0
AreArguments s n None = length s.above < n
AreArguments s n (Some xs) = (n ≤ length s.above) × (map seen xs.now ≡ reverse (take n s.above))
