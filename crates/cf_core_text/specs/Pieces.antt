-- Printed terms as tokens: each form as it is written, with parentheses by the place where a part stands.
-- g globals and then local variables are in scope, d in all; marks and `implicit` flags are not printed.
use Rattle.std.specs.Prelude.{ℕ, zero, suc, ◌-◌, Bool, true, false, List, [], ◌∷◌, ◌++◌, Option, Some, None, take, drop, nat_lt, if◌then◌else◌}
use Rattle.cf_lex.specs.declared.keywords.Keyword.{Keyword}
use Rattle.cf_lex.specs.declared.keywords.Keyword.TheVariants as keyword
use Rattle.cf_lex.specs.declared.marks.Mark.TheVariants as sign
use Rattle.cf_term.specs.declared.operations.Op.{Op}
use Rattle.cf_term.specs.declared.operations.Op.TheVariants as op
use Rattle.cf_term.specs.Core.{Tm, var, node, Tms, nil, cons, Part, parts, first_part, rest_parts, Branch, Head, MetaTyH, ValTyH, CompTyH, TyH, PiH, LamH, AppH, LetH, SigH, PairH, FstH, SndH, UnitTyH, UnitH, UnitRecH, BoolTyH, TrueH, FalseH, BoolRecH, NatTyH, ZeroH, SucH, NatRecH, ListTyH, NilH, ConsH, ListRecH, LiftH, QuoteH, VH, CH, IntTyH, DataH, ArrH, LitH, PrimH, LetVH, LetRecH, OLamH, OAppH, ConH, CaseH, FailH, SpliceH, HoleH, MarkH}
use Rattle.cf_core_text.specs.declared.pieces.Piece.{Piece}
use Rattle.cf_core_text.specs.declared.pieces.Piece.TheVariants as piece
use Rattle.cf_core_text.specs.declared.pieces.Place.{Place}
use Rattle.cf_core_text.specs.declared.pieces.Place.TheVariants as place

-- a printed form: the narrowest place where it stands without parentheses, its tokens, and its number where it is a Nat literal
pub record Printed : Type 0 where
  pub class : Place
  pub pieces : List Piece
  pub number : Option ℕ

-- a printed form that is no Nat literal
abbrev pub shown : Place → List Piece → Printed
shown c ps = record { class = c; pieces = ps; number = None }

-- a Nat literal
abbrev pub literal : ℕ → Printed
literal n = record { class = place.Atom; pieces = piece.NatLit n ∷ []; number = Some n }

-- whether a form of class c stands at place p without parentheses
abbrev pub stands : (p c : Place) → Bool
stands place.Term c = true
stands p place.Atom = true
stands place.Application place.Application = true
stands place.Chain place.Chain = true
stands p c = false

-- in parentheses
abbrev pub enclosed : List Piece → List Piece
enclosed ps = piece.Mark sign.OpenParen ∷ (ps ++ piece.Mark sign.CloseParen ∷ [])

-- a form at a place
abbrev pub placed : Place → Printed → List Piece
placed p f = if stands p f.class then f.pieces else enclosed f.pieces

-- the variable that stands under n others
abbrev pub variable : (g n : ℕ) → Piece
variable g n = if nat_lt n g then piece.Global n else piece.Local (n - g)

-- d variables, and n more
abbrev pub under : (d n : ℕ) → ℕ
under d zero = d
under d (suc n) = suc (under d n)

-- a word and its atoms
abbrev pub atoms : List Printed → List Piece
atoms [] = []
atoms (f ∷ fs) = placed place.Atom f ++ atoms fs

-- a form that is a word and atoms; the word alone is an atom
abbrev pub worded : Keyword → List Printed → Printed
worded w [] = shown place.Atom (piece.Word w ∷ [])
worded w fs = shown place.Term (piece.Word w ∷ atoms fs)

-- (x : A), a mark, and the part under x
abbrev pub binder : (g d : ℕ) → Printed → Piece → Printed → List Piece
binder g d a m b = piece.Mark sign.OpenParen ∷ variable g d ∷ piece.Mark sign.Colon ∷ (a.pieces ++ piece.Mark sign.CloseParen ∷ m ∷ b.pieces)

-- x : A := t, and more
abbrev pub defining : (g d : ℕ) → Printed → Printed → List Piece → List Piece
defining g d a t more = variable g d ∷ piece.Mark sign.Colon ∷ (a.pieces ++ piece.Mark sign.Becomes ∷ (t.pieces ++ more))

-- x : A := t; u
abbrev pub bound : (g d : ℕ) → Printed → Printed → Printed → List Piece
bound g d a t u = defining g d a t (piece.Mark sign.Semicolon ∷ u.pieces)

-- f : b := t, and the others behind `and`; u
abbrev pub group : Keyword → (g d : ℕ) → List Printed → List Piece
group w g d (a ∷ t ∷ fs) = piece.Word w ∷ defining g d a t (group keyword.And g (suc d) fs)
group w g d (u ∷ []) = piece.Mark sign.Semicolon ∷ u.pieces
group w g d [] = []

-- behind a comma each
abbrev pub further : List Printed → List Piece
further [] = []
further (f ∷ fs) = piece.Mark sign.Comma ∷ (f.pieces ++ further fs)

-- with commas between
abbrev pub listed : List Printed → List Piece
listed [] = []
listed (f ∷ fs) = f.pieces ++ further fs

-- D[a, ..], and more
abbrev pub bracketed : List Printed → List Piece → List Piece
bracketed fs more = piece.Mark sign.OpenBracket ∷ (listed fs ++ piece.Mark sign.CloseBracket ∷ more)

-- the names that a branch binds, and more
abbrev pub names : (g d n : ℕ) → List Piece → List Piece
names g d zero more = more
names g d (suc n) more = variable g d ∷ names g (suc d) n more

-- c x ..  . t
abbrev pub arm : (g d : ℕ) → Branch → Printed → List Piece → List Piece
arm g d b t more = piece.Ctor b.type b.ctor ∷ names g d b.names (piece.Mark sign.Dot ∷ (t.pieces ++ more))

-- the branches behind a first one, and the brace
abbrev pub more_arms : (g d : ℕ) → List Branch → List Printed → List Piece
more_arms g d (b ∷ bs) (t ∷ ts) = piece.Mark sign.Bar ∷ arm g d b t (more_arms g d bs ts)
more_arms g d _ _ = piece.Mark sign.CloseBrace ∷ []

-- the branches, and the brace
abbrev pub arms : (g d : ℕ) → List Branch → List Printed → List Piece
arms g d (b ∷ bs) (t ∷ ts) = arm g d b t (more_arms g d bs ts)
arms g d _ _ = piece.Mark sign.CloseBrace ∷ []

-- the word of an operation
abbrev pub op_word : Op → Keyword
op_word op.Add = keyword.Add
op_word op.Sub = keyword.Sub
op_word op.Mul = keyword.Mul
op_word op.Div = keyword.Div
op_word op.Rem = keyword.Rem
op_word op.Eq = keyword.Eq
op_word op.Lt = keyword.Lt

-- the word of a form that is written as a word and atoms
abbrev pub word_of : Head → Option Keyword
word_of MetaTyH = Some keyword.MetaTy
word_of ValTyH = Some keyword.ValTy
word_of CompTyH = Some keyword.CompTy
word_of TyH = Some keyword.Ty
word_of PairH = Some keyword.Pair
word_of FstH = Some keyword.Fst
word_of SndH = Some keyword.Snd
word_of UnitTyH = Some keyword.UnitTy
word_of UnitH = Some keyword.Unit
word_of UnitRecH = Some keyword.UnitRec
word_of BoolTyH = Some keyword.BoolTy
word_of TrueH = Some keyword.True
word_of FalseH = Some keyword.False
word_of BoolRecH = Some keyword.BoolRec
word_of NatTyH = Some keyword.NatTy
word_of NatRecH = Some keyword.NatRec
word_of ListTyH = Some keyword.ListTy
word_of NilH = Some keyword.Nil
word_of ConsH = Some keyword.Cons
word_of ListRecH = Some keyword.ListRec
word_of VH = Some keyword.V
word_of CH = Some keyword.C
word_of IntTyH = Some keyword.IntTy
word_of (PrimH o) = Some (op_word o)
word_of FailH = Some keyword.Fail
word_of _ = None

-- `suc` on a Nat literal is one
abbrev pub successor : Printed → Printed
successor f = elim f.number [ Some n ↦ literal (suc n) | None ↦ worded keyword.Suc (f ∷ []) ]

-- the forms that are no word and atoms
abbrev pub written : (g d : ℕ) → Head → List Printed → Printed
written g d ZeroH [] = literal 0
written g d SucH (f ∷ []) = successor f
written g d (PiH i) (a ∷ b ∷ []) = shown place.Term (piece.Word keyword.Pi ∷ binder g d a (piece.Mark sign.Arrow) b)
written g d (LamH i) (a ∷ t ∷ []) = shown place.Term (piece.Mark sign.Backslash ∷ binder g d a (piece.Mark sign.Dot) t)
written g d (AppH i) (t ∷ u ∷ []) = shown place.Application (placed place.Application t ++ placed place.Atom u)
written g d LetH (a ∷ t ∷ u ∷ []) = shown place.Term (piece.Word keyword.MetaLet ∷ bound g d a t u)
written g d SigH (a ∷ b ∷ []) = shown place.Term (piece.Word keyword.Sig ∷ binder g d a (piece.Mark sign.Comma) b)
written g d LiftH (a ∷ []) = shown place.Atom (piece.Mark sign.Caret ∷ placed place.Atom a)
written g d QuoteH (t ∷ []) = shown place.Atom (piece.Mark sign.Less ∷ (t.pieces ++ piece.Mark sign.Greater ∷ []))
written g d (DataH n) fs = shown place.Atom (piece.DataType n ∷ bracketed fs [])
written g d ArrH (a ∷ b ∷ []) = shown place.Term (placed place.Atom a ++ piece.Mark sign.DoubleArrow ∷ b.pieces)
written g d (LitH z) [] = shown place.Atom (piece.Whole z ∷ [])
written g d LetVH (a ∷ t ∷ u ∷ []) = shown place.Term (piece.Word keyword.Let ∷ bound g d a t u)
written g d (LetRecH n) fs = shown place.Term (group keyword.LetRec g d fs)
written g d OLamH (a ∷ t ∷ []) = shown place.Term (piece.Word keyword.Fn ∷ binder g d a (piece.Mark sign.Dot) t)
written g d OAppH (t ∷ u ∷ []) = shown place.Chain (placed place.Chain t ++ piece.Mark sign.At ∷ placed place.Atom u)
written g d (ConH n c k) fs = shown place.Atom (piece.Word keyword.Con ∷ piece.Ctor n c ∷ bracketed (take k fs) (piece.Fields ∷ (listed (drop k fs) ++ piece.Mark sign.CloseParen ∷ [])))
written g d (CaseH bs) (t ∷ a ∷ ts) = shown place.Term (piece.Word keyword.Case ∷ (t.pieces ++ piece.Mark sign.Colon ∷ (a.pieces ++ piece.Word keyword.Of ∷ piece.Mark sign.OpenBrace ∷ arms g d bs ts)))
written g d SpliceH (u ∷ []) = shown place.Atom (piece.Mark sign.Tilde ∷ placed place.Atom u)
written g d (HoleH k) [] = shown place.Term (piece.Hole k ∷ [])
written g d MarkH (t ∷ []) = t
written g d _ _ = shown place.Term []

-- a form with its parts, which are printed before
abbrev pub form : (g d : ℕ) → Head → List Printed → Printed
form g d h fs = elim (word_of h) [ Some w ↦ worded w fs | None ↦ written g d h fs ]

abbrev mutual
  pub printed : (g d : ℕ) → Tm → Printed
  printed g d (var i) = shown place.Atom (variable g (d - suc i) ∷ [])
  printed g d (node h ts) = form g d h (printed_all g d (parts h) ts)

  pub printed_all : (g d : ℕ) → List Part → Tms → List Printed
  printed_all g d ps nil = []
  printed_all g d ps (cons t ts) = printed g (under d (first_part ps).binds) t ∷ printed_all g d (rest_parts ps) ts

-- the tokens of a term
abbrev pub pieces : (g d : ℕ) → Tm → List Piece
pieces g d t = (printed g d t).pieces
