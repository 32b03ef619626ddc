-- How names get their numbers as they are seen.
use Rattle.std.specs.Prelude.{ℕ, ◌+◌, List, [], ◌∷◌, ◌++◌, length, string_bytes}
use Rattle.std.specs.List.{position_or_len}
use Rattle.std.specs.Str.{bytes_eq}
use Rattle.std.specs.declared.alloc.Global.{Global}
use Rattle.std.specs.declared.string.String.{String}
use Rattle.cf_lex.specs.Names.{with_name}
use Rattle.cf_lex.specs.declared.piece.Lexeme.{Lexeme}
use Rattle.cf_lex.specs.declared.piece.Lexeme.TheVariants as lexeme
use Rattle.cf_lex.specs.declared.piece.Piece.{Piece}
use Rattle.cf_lex.specs.declared.piece.Piece.TheVariants as piece
use Rattle.cf_lex.specs.declared.token.Token.{Token}
use Rattle.cf_lex.specs.declared.token.TokenKind.{TokenKind}
use Rattle.cf_lex.specs.declared.token.TokenKind.TheVariants as kind

-- the bytes of each text
abbrev pub bytes_of : List (String Global) → List (List ℕ)
bytes_of [] = []
bytes_of (s ∷ ss) = string_bytes s ∷ bytes_of ss

-- the number that a name gets behind those seen
abbrev pub number_after : List (List ℕ) → List ℕ → ℕ
number_after seen name = position_or_len (bytes_eq name) seen

-- what a token is behind the names seen
abbrev pub kind_after : List (List ℕ) → Lexeme → List ℕ → TokenKind
kind_after seen lexeme.Name text = kind.Name (number_after seen text)
kind_after seen (lexeme.Word k) text = kind.Word k
kind_after seen lexeme.Whole text = kind.Whole
kind_after seen lexeme.NatLit text = kind.NatLit
kind_after seen lexeme.Hole text = kind.Hole
kind_after seen (lexeme.Mark m) text = kind.Mark m

-- the names seen once this token is seen too
abbrev pub names_after : List (List ℕ) → Lexeme → List ℕ → List (List ℕ)
names_after seen lexeme.Name text = with_name seen text
names_after seen (lexeme.Word k) text = seen
names_after seen lexeme.Whole text = seen
names_after seen lexeme.NatLit text = seen
names_after seen lexeme.Hole text = seen
names_after seen (lexeme.Mark m) text = seen

-- the tokens once this piece is read at a byte, behind the names seen; blanks and comments are none
abbrev pub piece_tokens : List Token → List (List ℕ) → Piece → ℕ → List ℕ → List Token
piece_tokens tokens seen (piece.Token l) at text = tokens ++ record { start = at; end = at + length text; kind = kind_after seen l text } ∷ []
piece_tokens tokens seen piece.Blank at text = tokens
piece_tokens tokens seen piece.Comment at text = tokens

-- the names seen once this piece is read
abbrev pub piece_names : List (List ℕ) → Piece → List ℕ → List (List ℕ)
piece_names seen (piece.Token l) text = names_after seen l text
piece_names seen piece.Blank text = seen
piece_names seen piece.Comment text = seen
