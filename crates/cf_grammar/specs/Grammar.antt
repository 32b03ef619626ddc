-- The grammar: for each phrase its right sides, and what symbols derive.
use Rattle.std.specs.Prelude.{ℕ, suc, Bool, true, false, List, [], ◌∷◌, ◌++◌, replicate}
use Rattle.cf_lex.specs.declared.keywords.Keyword.{Keyword}
use Rattle.cf_lex.specs.declared.keywords.Keyword.TheVariants as keyword
use Rattle.cf_lex.specs.declared.marks.Mark.{Mark}
use Rattle.cf_lex.specs.declared.marks.Mark.TheVariants as mark
use Rattle.cf_grammar.specs.declared.classes.Class.{Class}
use Rattle.cf_grammar.specs.declared.classes.Class.TheVariants as class
use Rattle.cf_grammar.specs.declared.phrases.Phrase.{Phrase}
use Rattle.cf_grammar.specs.declared.phrases.Phrase.TheVariants.{Program, Decls, Decl, Params, Param, Ctors, MoreCtors, Ctor, Fields, MoreFields, Field, Terms, MoreTerms, Term, Lambda, Fn, PiBinder, CaseType, Branches, MoreBranches, Branch, Arrow, Chain, Operands, Operand, App, Args, Arg, Head, Atom, Code, Brackets, ConBrackets, Second, Binder, Binders}
use Rattle.cf_grammar.specs.declared.phrases.Symbol.{Symbol}
use Rattle.cf_grammar.specs.declared.phrases.Symbol.TheVariants.{Is as is, AnyName as NAME, Phrase as a}

-- a keyword
abbrev pub word : Keyword → Symbol
word y = is (class.Word y)

-- a mark
abbrev pub sign : Mark → Symbol
sign z = is (class.Mark z)

-- a name that does not begin with `_`
abbrev pub GNAME : Symbol
GNAME = is (class.Name true)

-- a binder with its type, between these marks
abbrev pub typed : Mark → Mark → Bool → ℕ → List Symbol
typed l r x d = sign l ∷ a Binder ∷ sign mark.Colon ∷ a (Term x (suc d)) ∷ sign r ∷ []

-- what stands behind `let`, `mlet` and `letrec`
abbrev pub defined : Bool → ℕ → List Symbol
defined x d = a Binder ∷ sign mark.Colon ∷ a (Term x (suc d)) ∷ sign mark.Becomes ∷ a (Term x (suc d)) ∷ sign mark.Semicolon ∷ a (Term x (suc d)) ∷ []

-- terms between brackets
abbrev pub bracketed : Bool → ℕ → List Symbol
bracketed x d = sign mark.OpenBracket ∷ a (Terms x d) ∷ sign mark.CloseBracket ∷ []

-- shorthands, which an explicit program has not
abbrev pub short : Bool → List (List Symbol) → List (List Symbol)
short true rs = []
short false rs = rs

-- each of these words, with as many atoms behind it
abbrev pub words : Bool → ℕ → ℕ → List Keyword → List (List Symbol)
words x d n [] = []
words x d n (y ∷ ys) = (word y ∷ replicate n (a (Atom x d))) ∷ words x d n ys

-- the words that take no atoms
abbrev pub constants : List Keyword
constants = keyword.MetaTy ∷ keyword.ValTy ∷ keyword.CompTy ∷ keyword.Ty ∷ keyword.UnitTy ∷ keyword.Unit ∷ keyword.BoolTy ∷ keyword.True ∷ keyword.False ∷ keyword.NatTy ∷ keyword.Zero ∷ keyword.IntTy ∷ []

-- the words that take one atom
abbrev pub of_one : List Keyword
of_one = keyword.Fail ∷ keyword.Fst ∷ keyword.Snd ∷ keyword.Suc ∷ keyword.ListTy ∷ keyword.Nil ∷ keyword.V ∷ keyword.C ∷ []

-- the words that take two
abbrev pub of_two : List Keyword
of_two = keyword.Cons ∷ keyword.Add ∷ keyword.Sub ∷ keyword.Mul ∷ keyword.Div ∷ keyword.Rem ∷ keyword.Eq ∷ keyword.Lt ∷ []

-- the words that take three
abbrev pub of_three : List Keyword
of_three = keyword.Pair ∷ keyword.UnitRec ∷ []

-- the words that take four
abbrev pub of_four : List Keyword
of_four = keyword.BoolRec ∷ keyword.NatRec ∷ keyword.ListRec ∷ []

-- the right sides of each phrase; x: whether the program is explicit, d: the depth, k: the number of the item
abbrev pub rules : Phrase → List (List Symbol)
rules Program =
    (word keyword.Explicit ∷ sign mark.Semicolon ∷ a (Decls true 0) ∷ [])
    ∷ (word keyword.Use ∷ word keyword.Prelude ∷ sign mark.Semicolon ∷ a (Decls false 0) ∷ [])
    ∷ (a (Decl false 0) ∷ a (Decls false 1) ∷ [])
    ∷ []
    ∷ []
rules (Decls x k) = [] ∷ (a (Decl x k) ∷ a (Decls x (suc k)) ∷ []) ∷ []
rules (Decl x k) =
    (word keyword.Data ∷ GNAME ∷ a (Params 0) ∷ sign mark.Becomes ∷ a (Ctors x 0) ∷ sign mark.Semicolon ∷ [])
    ∷ (word keyword.Meta ∷ GNAME ∷ sign mark.Colon ∷ a (Term x 1) ∷ sign mark.Becomes ∷ a (Term x 1) ∷ sign mark.Semicolon ∷ [])
    ∷ (GNAME ∷ sign mark.Colon ∷ a (Term x 1) ∷ sign mark.Becomes ∷ a (Term x 1) ∷ sign mark.Semicolon ∷ [])
    ∷ []
rules (Params k) = [] ∷ (a (Param k) ∷ a (Params (suc k)) ∷ []) ∷ []
rules (Param k) = (sign mark.OpenParen ∷ NAME ∷ sign mark.Colon ∷ word keyword.ValTy ∷ sign mark.CloseParen ∷ []) ∷ []
rules (Ctors x k) = [] ∷ (a (Ctor x k) ∷ a (MoreCtors x (suc k)) ∷ []) ∷ []
rules (MoreCtors x k) = [] ∷ (sign mark.Bar ∷ a (Ctor x k) ∷ a (MoreCtors x (suc k)) ∷ []) ∷ []
rules (Ctor x k) = (GNAME ∷ sign mark.OpenParen ∷ a (Fields x 0) ∷ sign mark.CloseParen ∷ []) ∷ []
rules (Fields x k) = [] ∷ (a (Field x k) ∷ a (MoreFields x (suc k)) ∷ []) ∷ []
rules (MoreFields x k) = [] ∷ (sign mark.Comma ∷ a (Field x k) ∷ a (MoreFields x (suc k)) ∷ []) ∷ []
rules (Field x k) = (a (Term x 1) ∷ []) ∷ []
rules (Terms x d) = [] ∷ (a (Term x (suc d)) ∷ a (MoreTerms x d) ∷ []) ∷ []
rules (MoreTerms x d) = [] ∷ (sign mark.Comma ∷ a (Term x (suc d)) ∷ a (MoreTerms x d) ∷ []) ∷ []
rules (Term x d) =
    (sign mark.Backslash ∷ a (Lambda x d) ∷ sign mark.Dot ∷ a (Term x (suc d)) ∷ [])
    ∷ (word keyword.Fn ∷ a (Fn x d) ∷ sign mark.Dot ∷ a (Term x (suc d)) ∷ [])
    ∷ (word keyword.MetaLet ∷ defined x d)
    ∷ (word keyword.Let ∷ defined x d)
    ∷ (word keyword.LetRec ∷ defined x d)
    ∷ (word keyword.Pi ∷ a (PiBinder x d) ∷ sign mark.Arrow ∷ a (Term x (suc d)) ∷ [])
    ∷ (word keyword.Sig ∷ (typed mark.OpenParen mark.CloseParen x d ++ sign mark.Comma ∷ a (Term x (suc d)) ∷ []))
    ∷ (word keyword.Case ∷ a (Term x (suc d)) ∷ a (CaseType x d) ∷ word keyword.Of ∷ sign mark.OpenBrace ∷ a (Branches x d) ∷ sign mark.CloseBrace ∷ [])
    ∷ (a (Chain x d) ∷ a (Arrow x d) ∷ [])
    ∷ []
rules (Lambda x d) = typed mark.OpenParen mark.CloseParen x d ∷ short x (typed mark.OpenBrace mark.CloseBrace x d ∷ (a Binder ∷ []) ∷ [])
rules (Fn x d) = typed mark.OpenParen mark.CloseParen x d ∷ short x ((a Binder ∷ []) ∷ [])
rules (PiBinder x d) = typed mark.OpenParen mark.CloseParen x d ∷ short x (typed mark.OpenBrace mark.CloseBrace x d ∷ [])
rules (CaseType x d) = (sign mark.Colon ∷ a (Term x (suc d)) ∷ []) ∷ short x ([] ∷ [])
rules (Branches x d) = [] ∷ (a (Branch x d) ∷ a (MoreBranches x d) ∷ []) ∷ []
rules (MoreBranches x d) = [] ∷ (sign mark.Bar ∷ a (Branch x d) ∷ a (MoreBranches x d) ∷ []) ∷ []
rules (Branch x d) = (NAME ∷ a Binders ∷ sign mark.Dot ∷ a (Term x (suc d)) ∷ []) ∷ []
rules (Arrow x d) = [] ∷ (sign mark.Arrow ∷ a (Term x (suc d)) ∷ []) ∷ (sign mark.DoubleArrow ∷ a (Term x (suc d)) ∷ []) ∷ []
rules (Chain x d) = (a (App x d) ∷ a (Operands x d 0) ∷ []) ∷ []
rules (Operands x d k) = [] ∷ (sign mark.At ∷ a (Operand x d k) ∷ a (Operands x d (suc k)) ∷ []) ∷ []
rules (Operand x d k) = (a (App x d) ∷ []) ∷ []
rules (App x d) = (a (Head x d) ∷ a (Args x d 0) ∷ []) ∷ []
rules (Args x d k) = [] ∷ (a (Arg x d k) ∷ a (Args x d (suc k)) ∷ []) ∷ []
rules (Arg x d k) = (a (Atom x d) ∷ []) ∷ short x ((sign mark.OpenBrace ∷ a (Term x (suc d)) ∷ sign mark.CloseBrace ∷ []) ∷ [])
rules (Head x d) = (a (Atom x d) ∷ []) ∷ (words x d 1 of_one ++ words x d 2 of_two ++ words x d 3 of_three ++ words x d 4 of_four)
rules (Atom x d) =
    (NAME ∷ a (Brackets x d) ∷ [])
    ∷ (is class.Whole ∷ [])
    ∷ (is class.NatLit ∷ [])
    ∷ (word keyword.Con ∷ NAME ∷ a (ConBrackets x d) ∷ sign mark.OpenParen ∷ a (Terms x d) ∷ sign mark.CloseParen ∷ [])
    ∷ (sign mark.OpenParen ∷ a (Term x (suc d)) ∷ a (Second x d) ∷ sign mark.CloseParen ∷ [])
    ∷ (sign mark.Less ∷ a (Term x (suc d)) ∷ sign mark.Greater ∷ [])
    ∷ (a (Code x (suc d)) ∷ [])
    ∷ (words x d 0 constants ++ short x ((is class.Hole ∷ []) ∷ []))
rules (Code x d) = (sign mark.Tilde ∷ a (Atom x d) ∷ []) ∷ (sign mark.Caret ∷ a (Atom x d) ∷ []) ∷ []
rules (Brackets x d) = [] ∷ bracketed x d ∷ []
rules (ConBrackets x d) = bracketed x d ∷ short x ([] ∷ [])
rules (Second x d) = [] ∷ short x ((sign mark.Comma ∷ a (Term x (suc d)) ∷ []) ∷ [])
rules Binder = (NAME ∷ []) ∷ (is class.Hole ∷ []) ∷ []
rules Binders = [] ∷ (a Binder ∷ a Binders ∷ []) ∷ []

-- whether a symbol takes a token
pub data Takes : Symbol → Class → Type 0 where
  exact : {k : Class} → Takes (is k) k
  any_name : {p : Bool} → Takes NAME (class.Name p)

-- something stands in a list
pub data Among {A : Type 0} (x : A) : List A → Type 0 where
  first : {ys : List A} → Among x (x ∷ ys)
  other : {y : A} {ys : List A} → Among x ys → Among x (y ∷ ys)

-- what symbols derive: each takes a token, or is a phrase that is opened by one of its right sides
pub data Derives : List Symbol → List Class → Type 0 where
  done : Derives [] []
  token : {y : Symbol} {k : Class} {ys : List Symbol} {ks : List Class} → Takes y k → Derives ys ks → Derives (y ∷ ys) (k ∷ ks)
  phrase : {n : Phrase} {r : List Symbol} {ys : List Symbol} {ks : List Class} → Among r (rules n) → Derives (r ++ ys) ks → Derives (a n ∷ ys) ks

-- a program with the end behind it
abbrev pub start : List Symbol
start = a Program ∷ is class.End ∷ []

-- a program's tokens, the end included
abbrev pub IsProgram : List Class → Type 0
IsProgram ks = Derives start ks

-- from these symbols to those over some tokens: what stands leftmost is a token that is taken, or a phrase that is opened
pub data Leads : List Symbol → List Class → List Symbol → Type 0 where
  none : {ys : List Symbol} → Leads ys [] ys
  token : {y : Symbol} {k : Class} {ys zs : List Symbol} {ks : List Class} → Takes y k → Leads ys ks zs → Leads (y ∷ ys) (k ∷ ks) zs
  phrase : {n : Phrase} {r ys zs : List Symbol} {ks : List Class} → Among r (rules n) → Leads (r ++ ys) ks zs → Leads (a n ∷ ys) ks zs
