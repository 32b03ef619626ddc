-- Printed tokens as text: how each is spelled, and which neighbours have a space between.
use Rattle.std.specs.Prelude.{ℕ, Bool, true, false, ◌||◌, not, List, [], ◌∷◌, ◌++◌, length, codes}
use Rattle.std.specs.Fmt.{decimal, signed_decimal}
use Rattle.cf_lex.specs.Spelling.{keyword_text}
use Rattle.cf_lex.specs.declared.marks.Mark.{Mark}
use Rattle.cf_lex.specs.declared.marks.Mark.TheVariants as sign
use Rattle.cf_term.specs.Core.{Tm}
use Rattle.cf_core_text.specs.declared.pieces.Piece.{Piece}
use Rattle.cf_core_text.specs.declared.pieces.Piece.TheVariants as piece
use Rattle.cf_core_text.specs.Pieces.{pieces}
use Rattle.cf_core_text.specs.Names.{Names, global_name, type_name, ctor_name}

-- the characters of a mark
abbrev pub mark_text : Mark → List ℕ
mark_text sign.OpenParen = codes "("
mark_text sign.CloseParen = codes ")"
mark_text sign.OpenBracket = codes "["
mark_text sign.CloseBracket = codes "]"
mark_text sign.OpenBrace = codes "{"
mark_text sign.CloseBrace = codes "}"
mark_text sign.Less = codes "<"
mark_text sign.Greater = codes ">"
mark_text sign.Tilde = codes "~"
mark_text sign.Caret = codes "^"
mark_text sign.Colon = codes ":"
mark_text sign.Becomes = codes ":="
mark_text sign.Semicolon = codes ";"
mark_text sign.Dot = codes "."
mark_text sign.Comma = codes ","
mark_text sign.Bar = codes "|"
mark_text sign.Arrow = codes "->"
mark_text sign.DoubleArrow = codes "=>"
mark_text sign.Backslash = codes "\\"
mark_text sign.At = codes "@"

-- the bytes of a printed token
abbrev pub spelling : Names → Piece → List ℕ
spelling N (piece.Word w) = keyword_text w
spelling N (piece.Mark m) = mark_text m
spelling N piece.Fields = codes "("
spelling N (piece.Global n) = global_name N n
spelling N (piece.Local k) = codes "_" ++ decimal k
spelling N (piece.DataType n) = type_name N n
spelling N (piece.Ctor n c) = ctor_name N n c
spelling N (piece.Whole z) = signed_decimal z
spelling N (piece.NatLit n) = codes "#" ++ decimal n
spelling N (piece.Hole k) = codes "?" ++ decimal k

-- no space behind these
abbrev pub opens : Piece → Bool
opens piece.Fields = true
opens (piece.Mark sign.OpenParen) = true
opens (piece.Mark sign.OpenBracket) = true
opens (piece.Mark sign.Less) = true
opens (piece.Mark sign.Tilde) = true
opens (piece.Mark sign.Caret) = true
opens (piece.Mark sign.Backslash) = true
opens _ = false

-- no space before these
abbrev pub closes : Piece → Bool
closes piece.Fields = true
closes (piece.Mark sign.CloseParen) = true
closes (piece.Mark sign.OpenBracket) = true
closes (piece.Mark sign.CloseBracket) = true
closes (piece.Mark sign.Greater) = true
closes (piece.Mark sign.Comma) = true
closes _ = false

-- whether it is `)`
abbrev pub is_close_paren : Piece → Bool
is_close_paren (piece.Mark sign.CloseParen) = true
is_close_paren _ = false

-- whether it is `:=`
abbrev pub is_becomes : Piece → Bool
is_becomes (piece.Mark sign.Becomes) = true
is_becomes _ = false

-- the neighbours without a space between: a dot has none behind a typed binder, a semicolon has one behind `:=` alone
abbrev pub tight : (p q : Piece) → Bool
tight p (piece.Mark sign.Dot) = is_close_paren p
tight p (piece.Mark sign.Semicolon) = not (is_becomes p)
tight p q = opens p || closes q

-- the text between two neighbours
abbrev pub gap : (p q : Piece) → List ℕ
gap p q = elim (tight p q) [ true ↦ [] | false ↦ codes " " ]

-- the text behind a token
abbrev pub behind : Names → Piece → List Piece → List ℕ
behind N p [] = []
behind N p (q ∷ qs) = gap p q ++ spelling N q ++ behind N q qs

-- the text of tokens
abbrev pub joined : Names → List Piece → List ℕ
joined N [] = []
joined N (p ∷ ps) = spelling N p ++ behind N p ps

-- the text of a term under d variables, the outermost of which are the globals that have names
abbrev pub term_text : Names → (d : ℕ) → Tm → List ℕ
term_text N d t = joined N (pieces (length N.globals) d t)
