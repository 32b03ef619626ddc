-- What the steps of the lexer answer.
use Rattle.std.specs.Prelude.{◌≡◌, ℕ, ◌<◌, ◌≤◌, false, List, take, drop, length, Option, Some, MatchOption}
use Rattle.cf_lex.specs.Tokens.{IsFront, IsStuck, begins_name, is_blank, is_digit, spelled}
use Rattle.cf_lex.specs.declared.piece.Piece.{Piece}

-- the first n characters of the text are the piece at its front
abbrev pub Stands : List ℕ → Piece → ℕ → Type 0
Stands text p n = (0 < n) × (n ≤ length text) × IsFront p (take n text) (drop n text)

-- what stands at the front of the text
abbrev pub FrontIs : List ℕ → Option (Piece × ℕ) → Type 0
FrontIs text found = MatchOption found (IsStuck text) (λ x. Stands text x.0 x.1)

-- no piece is spelled by more than n characters of the text
abbrev pub NoLonger : List ℕ → ℕ → Type 0
NoLonger text n = (m : ℕ) (q : Piece) → n < m → m ≤ length text → spelled (take m text) ≡ Some q → ⊥

-- the piece at the front of the text, where it has two characters or more
abbrev pub PairIs : List ℕ → Option (Piece × ℕ) → Type 0
PairIs text found = MatchOption found (NoLonger text 1) (λ x. Stands text x.0 x.1)

-- a character that begins no name, number or blank
pub record IsOther (c : ℕ) : Type 0 where
  pub no_name : begins_name c ≡ false
  pub no_digit : is_digit c ≡ false
  pub no_blank : is_blank c ≡ false
