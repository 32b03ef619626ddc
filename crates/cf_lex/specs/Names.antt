-- The numbers of names, and what tokens are once their names have numbers.
use Rattle.std.specs.Prelude.{ℕ, ◌+◌, if◌then◌else◌, List, [], ◌∷◌, ◌++◌, length, map}
use Rattle.std.specs.List.{before_first, list_any}
use Rattle.std.specs.Str.{bytes_eq}
use Rattle.cf_lex.specs.Tokens.{Item}
use Rattle.cf_lex.specs.declared.piece.Lexeme.{Lexeme}
use Rattle.cf_lex.specs.declared.piece.Lexeme.TheVariants as lexeme
use Rattle.cf_lex.specs.declared.token.Token.{Token}
use Rattle.cf_lex.specs.declared.token.TokenKind.{TokenKind}
use Rattle.cf_lex.specs.declared.token.TokenKind.TheVariants as kind

-- the names seen once this one is seen too
abbrev pub with_name : List (List ℕ) → List ℕ → List (List ℕ)
with_name seen name = if list_any (bytes_eq name) seen then seen else seen ++ name ∷ []

-- the names seen, and behind them the others of these, each once, in the order in which they first stand
abbrev pub first_seen : List (List ℕ) → List (List ℕ) → List (List ℕ)
first_seen seen [] = seen
first_seen seen (name ∷ names) = first_seen (with_name seen name) names

-- the number of a name: how many different names stand before the first that is spelled like it
abbrev pub number : List (List ℕ) → List ℕ → ℕ
number names name = length (first_seen [] (before_first (bytes_eq name) names))

-- the spelling of a token that is a name
abbrev pub name_of : Lexeme → List ℕ → List (List ℕ)
name_of lexeme.Name text = text ∷ []
name_of (lexeme.Word k) text = []
name_of lexeme.Whole text = []
name_of lexeme.NatLit text = []
name_of lexeme.Hole text = []
name_of (lexeme.Mark m) text = []

-- the spellings of all tokens that are names, in order
abbrev pub names_in : List Item → List (List ℕ)
names_in [] = []
names_in (t ∷ ts) = name_of t.lexeme t.text ++ names_in ts

-- what a token is, where these are the names of the text
abbrev pub kind_of : List (List ℕ) → Lexeme → List ℕ → TokenKind
kind_of names lexeme.Name text = kind.Name (number names text)
kind_of names (lexeme.Word k) text = kind.Word k
kind_of names lexeme.Whole text = kind.Whole
kind_of names lexeme.NatLit text = kind.NatLit
kind_of names lexeme.Hole text = kind.Hole
kind_of names (lexeme.Mark m) text = kind.Mark m

-- a token with its place, where these are the names of the text
abbrev pub token_of : List (List ℕ) → Item → Token
token_of names t = record { start = t.start; end = t.start + length t.text; kind = kind_of names t.lexeme t.text }

-- the tokens of a text by its items
abbrev pub tokens_of : List Item → List Token
tokens_of items = map (token_of (names_in items)) items
