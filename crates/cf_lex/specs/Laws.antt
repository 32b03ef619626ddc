-- Laws of the tokens of a text.
use Rattle.std.specs.Prelude.{◌≡◌, ℕ, ◌≤◌, ◌<◌, List, [], ◌∷◌}
use Rattle.cf_lex.specs.Tokens.{Item, Lexes}
use Rattle.cf_lex.specs.Lexed.{TokenList, IsLexed}
use Rattle.cf_lex.specs.declared.token.Token.{Token}

-- a text has one answer at most: its tokens, and where they stop
abbrev pub LexesOne : Type 0
LexesOne = (n : ℕ) (text : List ℕ) (items others : List Item) (m k : ℕ) (left rest : List ℕ) → Lexes n text items m left → Lexes n text others k rest → (items ≡ others) × (m ≡ k) × (left ≡ rest)

-- each of these tokens begins at byte n or behind it, ends behind its beginning, and before the next one begins
abbrev pub AreInOrder : ℕ → List Token → Type 0
AreInOrder n [] = Unit {0}
AreInOrder n (t ∷ ts) = (n ≤ t.start) × (t.start < t.end) × AreInOrder t.end ts

-- the tokens of a text are in order, and do not overlap
abbrev pub InOrder : Type 0
InOrder = (l : TokenList) → IsLexed l → AreInOrder 0 l.tokens
