-- One turn of the walk over the tokens: what the symbol on top of the stack does at the next token.
use Rattle.std.specs.Prelude.{Bool, true, false, not, List, [], ◌++◌, Some, None, ◌≡◌, ◌≤◌}
use Rattle.cf_grammar.specs.declared.classes.Class.{Class}
use Rattle.cf_grammar.specs.declared.phrases.Phrase.{Phrase}
use Rattle.cf_grammar.specs.declared.phrases.Phrase.TheVariants.{Program, Decls, Decl, Params, Param, Ctors, MoreCtors, Ctor, Fields, MoreFields, Field, Terms, MoreTerms, Term, Lambda, Fn, PiBinder, CaseType, Branches, MoreBranches, Branch, Arrow, Chain, Operands, Operand, App, Args, Arg, Head, Atom, Code, Brackets, ConBrackets, Second, Binder, Binders}
use Rattle.cf_grammar.specs.declared.phrases.Symbol.{Symbol}
use Rattle.cf_grammar.specs.declared.phrases.Symbol.TheVariants.{Is as is, AnyName as NAME, Phrase as a}
use Rattle.cf_grammar.specs.declared.endings.Fault.{Fault}
use Rattle.cf_grammar.specs.declared.turning.Turn.{Turn}
use Rattle.cf_grammar.specs.declared.turning.Turn.TheVariants as turn
use Rattle.cf_grammar.specs.Grammar.{Takes}
use Rattle.cf_grammar.specs.Refusing.{over}
use Rattle.cf_grammar.specs.Choosing.{side, starts}

-- whether a phrase may be empty
abbrev pub may_be_empty : Phrase → Bool
may_be_empty Program = true
may_be_empty (Decls x k) = true
may_be_empty (Params k) = true
may_be_empty (Ctors x k) = true
may_be_empty (MoreCtors x k) = true
may_be_empty (Fields x k) = true
may_be_empty (MoreFields x k) = true
may_be_empty (Terms x d) = true
may_be_empty (MoreTerms x d) = true
may_be_empty (CaseType x d) = not x
may_be_empty (Branches x d) = true
may_be_empty (MoreBranches x d) = true
may_be_empty (Arrow x d) = true
may_be_empty (Operands x d k) = true
may_be_empty (Args x d k) = true
may_be_empty (Brackets x d) = true
may_be_empty (ConBrackets x d) = not x
may_be_empty (Second x d) = true
may_be_empty Binders = true
may_be_empty n = false

-- a token that is not taken, or a phrase that begins otherwise and is not to be empty
abbrev pub IsRefused : Symbol → Class → Type 0
IsRefused (a n) k = (starts n k ≡ false) × (may_be_empty n ≡ false)
IsRefused (is j) k = Takes (is j) k → ⊥
IsRefused NAME k = Takes NAME k → ⊥

-- a phrase within its limit that begins so, or one that is left out as empty
abbrev pub IsWithin : Phrase → Bool → Type 0
IsWithin n true = over n ≡ None
IsWithin n false = may_be_empty n ≡ true

-- the same of a symbol
abbrev pub IsOpened : Symbol → Class → Type 0
IsOpened (a n) k = IsWithin n (starts n k)
IsOpened (is j) k = ⊥
IsOpened NAME k = ⊥

-- a phrase past its limit begins so
abbrev pub IsPast : Symbol → Class → Fault → Type 0
IsPast (a n) k f = (starts n k ≡ true) × (over n ≡ Some f)
IsPast (is j) k f = ⊥
IsPast NAME k f = ⊥

-- what a turn may answer
abbrev pub Turned : Symbol → Class → Turn → Type 0
Turned y k turn.Take = Takes y k
Turned y k turn.Open = IsOpened y k
Turned y k turn.Refuse = IsRefused y k
Turned y k (turn.Pass f) = IsPast y k f

-- what it puts on the stack
abbrev pub put : Symbol → Class → List Symbol
put (a n) k = side n k
put (is j) k = []
put NAME k = []

-- the phrase's numbers are no greater than its limits let them be
abbrev pub IsSmall : Phrase → Type 0
IsSmall Program = Unit {0}
IsSmall (Decls x k) = k ≤ 4096
IsSmall (Decl x k) = k ≤ 4096
IsSmall (Params k) = k ≤ 16
IsSmall (Param k) = k ≤ 16
IsSmall (Ctors x k) = k ≤ 256
IsSmall (MoreCtors x k) = k ≤ 256
IsSmall (Ctor x k) = k ≤ 256
IsSmall (Fields x k) = k ≤ 16
IsSmall (MoreFields x k) = k ≤ 16
IsSmall (Field x k) = k ≤ 16
IsSmall (Terms x d) = d ≤ 200
IsSmall (MoreTerms x d) = d ≤ 200
IsSmall (Term x d) = d ≤ 201
IsSmall (Lambda x d) = d ≤ 200
IsSmall (Fn x d) = d ≤ 200
IsSmall (PiBinder x d) = d ≤ 200
IsSmall (CaseType x d) = d ≤ 200
IsSmall (Branches x d) = d ≤ 200
IsSmall (MoreBranches x d) = d ≤ 200
IsSmall (Branch x d) = d ≤ 200
IsSmall (Arrow x d) = d ≤ 200
IsSmall (Chain x d) = d ≤ 200
IsSmall (Operands x d k) = (d ≤ 200) × (k ≤ 16)
IsSmall (Operand x d k) = (d ≤ 200) × (k ≤ 16)
IsSmall (App x d) = d ≤ 200
IsSmall (Args x d k) = (d ≤ 200) × (k ≤ 16)
IsSmall (Arg x d k) = (d ≤ 200) × (k ≤ 16)
IsSmall (Head x d) = d ≤ 200
IsSmall (Atom x d) = d ≤ 200
IsSmall (Code x d) = d ≤ 201
IsSmall (Brackets x d) = d ≤ 200
IsSmall (ConBrackets x d) = d ≤ 200
IsSmall (Second x d) = d ≤ 200
IsSmall Binder = Unit {0}
IsSmall Binders = Unit {0}

-- the same of any symbol
abbrev pub Fits : Symbol → Type 0
Fits (a n) = IsSmall n
Fits (is j) = Unit {0}
Fits NAME = Unit {0}

-- whether a right side of the phrase begins with the token, and the stack with it on top
abbrev pub IsPut : Phrase → Class → List Symbol → List Symbol → Bool → Type 0
IsPut n k old new b = (b ≡ starts n k) × (new ≡ side n k ++ old)
