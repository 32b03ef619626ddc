-- Printed programs: a line for each declaration.
use Rattle.std.specs.Prelude.{ℕ, zero, suc, List, [], ◌∷◌, ◌++◌, map}
use Rattle.cf_lex.specs.declared.keywords.Keyword.TheVariants as keyword
use Rattle.cf_lex.specs.declared.marks.Mark.TheVariants as sign
use Rattle.cf_term.specs.Core.{Tm}
use Rattle.cf_rules.specs.Programs.{Constructor, Data, Declaration, DataC, MetaC, ObjectC}
use Rattle.cf_core_text.specs.declared.pieces.Piece.{Piece}
use Rattle.cf_core_text.specs.declared.pieces.Piece.TheVariants as piece
use Rattle.cf_core_text.specs.Pieces.{printed, pieces, listed, under}
use Rattle.cf_core_text.specs.Names.{Names, names_of}
use Rattle.cf_core_text.specs.Text.{joined}

-- (_k : ValTy) for n parameters from the one with number k on
abbrev pub parameters : (k n : ℕ) → List Piece
parameters k zero = []
parameters k (suc n) = piece.Mark sign.OpenParen ∷ piece.Local k ∷ piece.Mark sign.Colon ∷ piece.Word keyword.ValTy ∷ piece.Mark sign.CloseParen ∷ parameters (suc k) n

-- c (A, ..): the constructor with number c of the data type with number t, under d variables
abbrev pub constructor : (g d t c : ℕ) → Constructor → List Piece
constructor g d t c k = piece.Ctor t c ∷ piece.Mark sign.OpenParen ∷ (listed (map (printed g d) k.fields) ++ piece.Mark sign.CloseParen ∷ [])

-- a bar before each constructor but the first
abbrev pub bar : (c : ℕ) → List Piece
bar zero = []
bar (suc c) = piece.Mark sign.Bar ∷ []

-- the constructors from the one with number c on
abbrev pub constructors : (g d t c : ℕ) → List Constructor → List Piece
constructors g d t c [] = []
constructors g d t c (k ∷ ks) = bar c ++ constructor g d t c k ++ constructors g d t (suc c) ks

-- data D (_0 : ValTy) .. := c (A, ..) | ..;
abbrev pub data_line : (t g : ℕ) → Data → List Piece
data_line t g d =
    piece.Word keyword.Data ∷ piece.DataType t ∷ (parameters 0 d.params ++ piece.Mark sign.Becomes ∷ (constructors g (under g d.params) t 0 d.ctors ++ piece.Mark sign.Semicolon ∷ []))

-- x : A := t;
abbrev pub definition : (g : ℕ) → Tm → Tm → List Piece
definition g a t = piece.Global g ∷ piece.Mark sign.Colon ∷ (pieces g g a ++ piece.Mark sign.Becomes ∷ (pieces g g t ++ piece.Mark sign.Semicolon ∷ []))

-- the line of a declaration that stands below t data types and g globals
abbrev pub line : (t g : ℕ) → Declaration → List Piece
line t g (DataC d) = data_line t g d
line t g (MetaC x a b) = piece.Word keyword.Meta ∷ definition g a b
line t g (ObjectC x a b) = definition g a b

-- how many data types stand above what follows a declaration
abbrev pub types_below : ℕ → Declaration → ℕ
types_below t (DataC d) = suc t
types_below t (MetaC x a b) = t
types_below t (ObjectC x a b) = t

-- how many globals stand above what follows a declaration
abbrev pub globals_below : ℕ → Declaration → ℕ
globals_below g (DataC d) = g
globals_below g (MetaC x a b) = suc g
globals_below g (ObjectC x a b) = suc g

-- a line for each declaration, below t data types and g globals
abbrev pub lines : (t g : ℕ) → List Declaration → List (List Piece)
lines t g [] = []
lines t g (d ∷ ds) = line t g d ∷ lines (types_below t d) (globals_below g d) ds

-- explicit;
abbrev pub head_line : List Piece
head_line = piece.Word keyword.Explicit ∷ piece.Mark sign.Semicolon ∷ []

-- each line with a line feed behind it
abbrev pub line_text : Names → List (List Piece) → List ℕ
line_text N [] = []
line_text N (l ∷ ls) = joined N l ++ 10 ∷ line_text N ls

-- the printed program, as bytes; `Flag`, which is not printed, is the data type with number 0
abbrev pub core_text : List Declaration → List ℕ
core_text ds = line_text (names_of ds) (head_line ∷ lines 1 0 ds)
