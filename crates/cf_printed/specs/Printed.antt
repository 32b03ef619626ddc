-- The tokens of a printed program: each printed token is one, with the byte where it begins.
use Rattle.std.specs.Prelude.{ℕ, ◌+◌, List, [], ◌∷◌, ◌++◌, length}
use Rattle.cf_lex.specs.Lexed.{TokenList}
use Rattle.cf_lex.specs.Names.{first_seen, names_in, tokens_of}
use Rattle.cf_lex.specs.Tokens.{Item}
use Rattle.cf_lex.specs.declared.marks.Mark.TheVariants as sign
use Rattle.cf_lex.specs.declared.piece.Lexeme.{Lexeme}
use Rattle.cf_lex.specs.declared.piece.Lexeme.TheVariants as lexeme
use Rattle.cf_rules.specs.Programs.{Declaration}
use Rattle.cf_core_text.specs.declared.pieces.Piece.{Piece}
use Rattle.cf_core_text.specs.declared.pieces.Piece.TheVariants as piece
use Rattle.cf_core_text.specs.Names.{Names, names_of}
use Rattle.cf_core_text.specs.Text.{gap, joined, spelling}
use Rattle.cf_core_text.specs.Lines.{core_text, head_line, lines}

-- what a printed token is as a token of a text; a hole with its number is none, and stands for `_`
abbrev pub lexeme_of : Piece → Lexeme
lexeme_of (piece.Word w) = lexeme.Word w
lexeme_of (piece.Mark m) = lexeme.Mark m
lexeme_of piece.Fields = lexeme.Mark sign.OpenParen
lexeme_of (piece.Global n) = lexeme.Name
lexeme_of (piece.Local k) = lexeme.Name
lexeme_of (piece.DataType n) = lexeme.Name
lexeme_of (piece.Ctor n c) = lexeme.Name
lexeme_of (piece.Whole z) = lexeme.Whole
lexeme_of (piece.NatLit n) = lexeme.NatLit
lexeme_of (piece.Hole k) = lexeme.Hole

abbrev pub item : Names → ℕ → Piece → Item
item N n p = record { start = n; lexeme = lexeme_of p; text = spelling N p }

-- behind a token that ends before byte n
abbrev pub items_behind : Names → ℕ → Piece → List Piece → List Item
items_behind N n p [] = []
items_behind N n p (q ∷ qs) = let k : ℕ = n + length (gap p q) in item N k q ∷ items_behind N (k + length (spelling N q)) q qs

-- from byte n on
abbrev pub items_of : Names → ℕ → List Piece → List Item
items_of N n [] = []
items_of N n (p ∷ ps) = item N n p ∷ items_behind N (n + length (spelling N p)) p ps

-- of lines, each with a line feed behind it
abbrev pub line_items : Names → ℕ → List (List Piece) → List Item
line_items N n [] = []
line_items N n (l ∷ ls) = items_of N n l ++ line_items N (n + length (joined N l) + 1) ls

-- the tokens of a printed program
abbrev pub printed_items : List Declaration → List Item
printed_items ds = line_items (names_of ds) 0 (head_line ∷ lines 1 0 ds)

-- the printed program with its tokens
abbrev pub printed_tokens : List Declaration → TokenList
printed_tokens ds = record { text = core_text ds; tokens = tokens_of (printed_items ds); names = first_seen [] (names_in (printed_items ds)) }
