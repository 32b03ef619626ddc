-- What the lexer answers.
use Rattle.std.specs.Prelude.{◌≡◌, ℕ, ◌<◌, true, List, [], ◌∷◌, length, Some, Result, Ok, Err, Contains, slice_range}
use Rattle.std.specs.Str.{all_scalars, encode_utf8_all}
use Rattle.std.specs.Str.Lossy.{utf8_valid_len}
use Rattle.cf_lex.specs.Tokens.{Item, Lexes, spelled}
use Rattle.cf_lex.specs.Names.{first_seen, names_in, tokens_of}
use Rattle.cf_lex.specs.declared.ends.LexEnd.{LexEnd}
use Rattle.cf_lex.specs.declared.ends.LexEnd.TheVariants as end
use Rattle.cf_lex.specs.declared.piece.Lexeme.{Lexeme}
use Rattle.cf_lex.specs.declared.piece.Lexeme.TheVariants as lexeme
use Rattle.cf_lex.specs.declared.piece.Piece.TheVariants as piece
use Rattle.cf_lex.specs.declared.token.Token.{Token}
use Rattle.cf_lex.specs.declared.token.TokenKind.{TokenKind}
use Rattle.cf_lex.specs.declared.token.TokenKind.TheVariants as kind

-- a text with its tokens, and its names in the order of their numbers
pub record TokenList : Type 0 where
  pub text : List ℕ
  pub tokens : List Token
  pub names : List (List ℕ)

-- the bytes are these characters in UTF-8
abbrev pub AreChars : List ℕ → List ℕ → Type 0
AreChars bytes cs = (all_scalars cs ≡ true) × (encode_utf8_all cs ≡ bytes)

-- the whole text has these tokens and names
abbrev pub IsLexed : TokenList → Type 0
IsLexed l = (cs : List ℕ) × (items : List Item) × AreChars l.text cs × Lexes 0 cs items (length l.text) [] × (l.tokens ≡ tokens_of items) × (l.names ≡ first_seen [] (names_in items))

-- the text is UTF-8, and at this byte no token, blank or comment begins
abbrev pub HasBadChar : List ℕ → ℕ → Type 0
HasBadChar bytes at = (cs : List ℕ) × (items : List Item) × (c : ℕ) × (left : List ℕ) × AreChars bytes cs × Lexes 0 cs items at (c ∷ left)

-- why the text has no tokens
abbrev pub IsRefusal : List ℕ → LexEnd → Type 0
IsRefusal bytes (end.NotText at) = (at ≡ utf8_valid_len bytes) × (at < length bytes)
IsRefusal bytes (end.BadChar at) = HasBadChar bytes at
IsRefusal bytes end.NoMemory = Unit {0}

-- what `tokens` answers for these bytes
abbrev pub Lexed : List ℕ → Result TokenList LexEnd → Type 0
Lexed bytes (Ok l) = (l.text ≡ bytes) × IsLexed l
Lexed bytes (Err e) = IsRefusal bytes e

-- some token is the name with this number
abbrev pub IsUsed : List Token → ℕ → Type 0
IsUsed tokens n = (t : Token) × Contains tokens t × (t.kind ≡ kind.Name n)

-- the tokens that are the name with this number have this text
abbrev pub IsSpelled : TokenList → ℕ → List ℕ → Type 0
IsSpelled l n name = (t : Token) → Contains l.tokens t → t.kind ≡ kind.Name n → slice_range l.text t.start t.end ≡ name

-- what a token of these characters is, whatever number a name has
abbrev pub IsKind : Lexeme → TokenKind → Type 0
IsKind lexeme.Name k = (n : ℕ) × (k ≡ kind.Name n)
IsKind (lexeme.Word w) k = k ≡ kind.Word w
IsKind lexeme.Whole k = k ≡ kind.Whole
IsKind lexeme.NatLit k = k ≡ kind.NatLit
IsKind lexeme.Hole k = k ≡ kind.Hole
IsKind (lexeme.Mark m) k = k ≡ kind.Mark m

-- these bytes are characters that spell a token of this kind
abbrev pub Spells : TokenKind → List ℕ → Type 0
Spells k bytes = (cs : List ℕ) × (l : Lexeme) × (encode_utf8_all cs ≡ bytes) × (spelled cs ≡ Some (piece.Token l)) × IsKind l k
