-- The tokens of a text, as characters. At each place the longest token, blank or comment is taken.
use Rattle.std.specs.Prelude.{◌≡◌, ℕ, ◌+◌, ◌≤◌, ◌==◌, ◌&&◌, ◌||◌, not, nat_le, Bool, true, false, if◌then◌else◌, List, [], ◌∷◌, ◌++◌, length, codes, Option, Some, None}
use Rattle.std.specs.List.{list_all}
use Rattle.std.specs.Option.{option_map}
use Rattle.std.specs.Str.{bytes_eq, encode_utf8_all}
use Rattle.unicode_ident.specs.Ident.{is_xid_start, is_xid_continue}
use Rattle.cf_lex.specs.Spelling.{keyword_of, long_mark, short_mark}
use Rattle.cf_lex.specs.declared.keywords.Keyword.{Keyword}
use Rattle.cf_lex.specs.declared.marks.Mark.{Mark}
use Rattle.cf_lex.specs.declared.piece.Lexeme.{Lexeme}
use Rattle.cf_lex.specs.declared.piece.Lexeme.TheVariants as lexeme
use Rattle.cf_lex.specs.declared.piece.Piece.{Piece}
use Rattle.cf_lex.specs.declared.piece.Piece.TheVariants as piece

-- space, tab, carriage return, line feed
abbrev pub is_blank : ℕ → Bool
is_blank c = (c == 32) || (c == 9) || (c == 13) || (c == 10)

-- 0 to 9
abbrev pub is_digit : ℕ → Bool
is_digit c = nat_le 48 c && nat_le c 57

-- a character that a name may begin with
abbrev pub begins_name : ℕ → Bool
begins_name c = is_xid_start c || (c == 95)

-- a character that ends no line
abbrev pub stays_on_line : ℕ → Bool
stays_on_line c = not (c == 10)

-- a keyword where there is one, else a name
abbrev pub word_or_name : Option Keyword → Lexeme
word_or_name (Some k) = lexeme.Word k
word_or_name None = lexeme.Name

-- the hole, a keyword or a name, by its characters
abbrev pub word_of : List ℕ → Lexeme
word_of cs = if bytes_eq cs (codes "_") then lexeme.Hole else word_or_name (keyword_of cs)

-- the piece of a mark
abbrev pub mark_piece : Mark → Piece
mark_piece m = piece.Token (lexeme.Mark m)

-- this piece, where the test holds of all these characters
abbrev pub where_all : (ℕ → Bool) → Piece → List ℕ → Option Piece
where_all f p cs = if list_all f cs then Some p else None

-- this piece, where no character is left
abbrev pub at_end : Option Piece → List ℕ → Option Piece
at_end p [] = p
at_end p (c ∷ cs) = None

-- two characters that a comment begins with: `--`
abbrev pub begins_comment : ℕ → ℕ → Bool
begins_comment c d = (c == 45) && (d == 45)

-- two characters that a negative number begins with: `-` and a digit
abbrev pub begins_negative : ℕ → ℕ → Bool
begins_negative c d = (c == 45) && is_digit d

-- two characters that a Nat literal begins with: `#` and a digit
abbrev pub begins_natlit : ℕ → ℕ → Bool
begins_natlit c d = (c == 35) && is_digit d

-- what two characters spell with those behind them, where the first begins no name, number or blank
abbrev pub pair_spelled : ℕ → ℕ → List ℕ → Option Piece
pair_spelled c d cs =
    if begins_comment c d then where_all stays_on_line piece.Comment cs
    else (if begins_negative c d then where_all is_digit (piece.Token lexeme.Whole) cs
    else (if begins_natlit c d then where_all is_digit (piece.Token lexeme.NatLit) cs
    else at_end (option_map mark_piece (long_mark c d)) cs))

-- what a character spells with those behind it, where it begins no name, number or blank
abbrev pub other_spelled : ℕ → List ℕ → Option Piece
other_spelled c [] = option_map mark_piece (short_mark c)
other_spelled c (d ∷ cs) = pair_spelled c d cs

-- what these characters spell as a whole, if anything
abbrev pub spelled : List ℕ → Option Piece
spelled [] = None
spelled (c ∷ cs) =
    if begins_name c then where_all is_xid_continue (piece.Token (word_of (c ∷ cs))) cs
    else (if is_digit c then where_all is_digit (piece.Token lexeme.Whole) cs
    else (if is_blank c then at_end (Some piece.Blank) cs
    else other_spelled c cs))

-- the text begins with this piece, and with none that is longer
pub record IsFront (p : Piece) (front rest : List ℕ) : Type 0 where
  pub spells : spelled front ≡ Some p
  pub longest : (q : Piece) (other left : List ℕ) → spelled other ≡ Some q → other ++ left ≡ front ++ rest → length other ≤ length front

-- no piece stands at the front of the text
abbrev pub IsStuck : List ℕ → Type 0
IsStuck text = (p : Piece) (front rest : List ℕ) → spelled front ≡ Some p → front ++ rest ≡ text → ⊥

-- blanks and comments are no tokens
abbrev pub is_token : Piece → Bool
is_token (piece.Token l) = true
is_token piece.Blank = false
is_token piece.Comment = false

-- how many bytes the characters take
abbrev pub width : List ℕ → ℕ
width cs = length (encode_utf8_all cs)

-- a token by its characters: the byte where it begins, what it is, and its bytes
pub record Item : Type 0 where
  pub start : ℕ
  pub lexeme : Lexeme
  pub text : List ℕ

-- from byte n on, these are the tokens up to byte m, where what is left begins with no piece
pub data Lexes : ℕ → List ℕ → List Item → ℕ → List ℕ → Type 0 where
  stops : (n : ℕ) (cs : List ℕ) → IsStuck cs → Lexes n cs [] n cs
  skips : (n : ℕ) (p : Piece) (front rest : List ℕ) (items : List Item) (m : ℕ) (left : List ℕ) → is_token p ≡ false → IsFront p front rest → Lexes (n + width front) rest items m left → Lexes n (front ++ rest) items m left
  takes : (n : ℕ) (l : Lexeme) (front rest : List ℕ) (items : List Item) (m : ℕ) (left : List ℕ) → IsFront (piece.Token l) front rest → Lexes (n + width front) rest items m left → Lexes n (front ++ rest) (record { start = n; lexeme = l; text = encode_utf8_all front } ∷ items) m left
