-- Kinds of meanings: what each right side asks of the meanings of its symbols, and what kind of meaning it gives.
use Rattle.std.specs.Prelude.{ℕ, Bool, true, List, [], ◌∷◌, Option, Some, None, ◌≡◌}
use Rattle.cf_base.specs.declared.at.At.{At}
use Rattle.cf_lex.specs.declared.keywords.Keyword.{Keyword}
use Rattle.cf_lex.specs.declared.keywords.Keyword.TheVariants as keyword
use Rattle.cf_grammar.specs.declared.classes.Class.{Class}
use Rattle.cf_grammar.specs.declared.classes.Class.TheVariants as class
use Rattle.cf_grammar.specs.declared.phrases.Phrase.{Phrase}
use Rattle.cf_grammar.specs.declared.phrases.Phrase.TheVariants as phrase
use Rattle.cf_grammar.specs.declared.phrases.Symbol.{Symbol}
use Rattle.cf_grammar.specs.declared.phrases.Symbol.TheVariants.{Is as is, AnyName as NAME, Phrase as a}
use Rattle.cf_grammar.specs.declared.productions.Production.{Production}
use Rattle.cf_grammar.specs.declared.productions.Production.TheVariants as by
use Rattle.cf_tree.specs.Tree as trees
use Rattle.cf_parse.specs.Meaning.{Sem}
use Rattle.cf_parse.specs.Meaning as meant
use Rattle.cf_syntax.specs.Numbers.{in_range}

-- how many atoms a word takes
abbrev pub atoms_of : Keyword → Option ℕ
atoms_of keyword.MetaTy = Some 0
atoms_of keyword.ValTy = Some 0
atoms_of keyword.CompTy = Some 0
atoms_of keyword.Ty = Some 0
atoms_of keyword.UnitTy = Some 0
atoms_of keyword.Unit = Some 0
atoms_of keyword.BoolTy = Some 0
atoms_of keyword.True = Some 0
atoms_of keyword.False = Some 0
atoms_of keyword.NatTy = Some 0
atoms_of keyword.Zero = Some 0
atoms_of keyword.IntTy = Some 0
atoms_of keyword.Fail = Some 1
atoms_of keyword.Fst = Some 1
atoms_of keyword.Snd = Some 1
atoms_of keyword.Suc = Some 1
atoms_of keyword.ListTy = Some 1
atoms_of keyword.Nil = Some 1
atoms_of keyword.V = Some 1
atoms_of keyword.C = Some 1
atoms_of keyword.Cons = Some 2
atoms_of keyword.Add = Some 2
atoms_of keyword.Sub = Some 2
atoms_of keyword.Mul = Some 2
atoms_of keyword.Div = Some 2
atoms_of keyword.Rem = Some 2
atoms_of keyword.Eq = Some 2
atoms_of keyword.Lt = Some 2
atoms_of keyword.Pair = Some 3
atoms_of keyword.UnitRec = Some 3
atoms_of keyword.BoolRec = Some 4
atoms_of keyword.NatRec = Some 4
atoms_of keyword.ListRec = Some 4
atoms_of y = None

-- what a meaning is: a name, a number, a word that takes n atoms, any token, or what a phrase means
pub data Kind : Type 0 where
  Token Name Whole NatLit Term Binder Domain Argument Onto Bracketed Arm Ctor Decl Program : Kind
  Word : ℕ → Kind
  Many Maybe : Kind → Kind

-- a meaning of a kind
pub data Fits : Kind → Sem → Type 0 where
  a_token : {p : At} {k : Class} {x : trees.Name} → Fits Token (meant.token p k x)
  a_name : {p : At} {b : Bool} {x : trees.Name} → Fits Name (meant.token p (class.Name b) x)
  a_whole : {p : At} {x : trees.Name} → in_range class.Whole x ≡ true → Fits Whole (meant.token p class.Whole x)
  a_natlit : {p : At} {x : trees.Name} → in_range class.NatLit x ≡ true → Fits NatLit (meant.token p class.NatLit x)
  a_word : {n : ℕ} {p : At} {y : Keyword} {x : trees.Name} → atoms_of y ≡ Some n → Fits (Word n) (meant.token p (class.Word y) x)
  a_term : {t : trees.Tree} → Fits Term (meant.term t)
  a_binder : {b : trees.Binder} → Fits Binder (meant.binder b)
  a_domain : {i : Bool} {b : trees.Binder} {t : Option trees.Tree} → Fits Domain (meant.domain i b t)
  an_argument : {i : Bool} {t : trees.Tree} → Fits Argument (meant.argument i t)
  an_onto : {o : Bool} {t : trees.Tree} → Fits Onto (meant.onto o t)
  brackets : {ts : List trees.Tree} → Fits Bracketed (meant.bracketed ts)
  an_arm : {c : trees.Named} {bs : List trees.Binder} {t : trees.Tree} → Fits Arm (meant.arm c bs t)
  a_ctor : {c : trees.CtorTree} → Fits Ctor (meant.ctor c)
  a_decl : {d : trees.DeclTree} → Fits Decl (meant.decl d)
  a_program : {p : trees.Program} → Fits Program (meant.program p)
  none : {j : Kind} → Fits (Many j) meant.nothing
  more : {j : Kind} {x xs : Sem} → Fits j x → Fits (Many j) xs → Fits (Many j) (meant.also x xs)
  left_out : {j : Kind} → Fits (Maybe j) meant.nothing
  given : {j : Kind} {x : Sem} → Fits j x → Fits (Maybe j) x

-- meanings of these kinds, and maybe others behind them
pub data AllFit : List Kind → List Sem → Type 0 where
  end : {vs : List Sem} → AllFit [] vs
  next : {j : Kind} {js : List Kind} {v : Sem} {vs : List Sem} → Fits j v → AllFit js vs → AllFit (j ∷ js) (v ∷ vs)

-- the kind of a phrase
abbrev pub kind_of : Phrase → Kind
kind_of phrase.Program = Maybe Program
kind_of (phrase.Decls x k) = Many Decl
kind_of (phrase.Decl x k) = Decl
kind_of (phrase.Params k) = Many Name
kind_of (phrase.Param k) = Name
kind_of (phrase.Ctors x k) = Many Ctor
kind_of (phrase.MoreCtors x k) = Many Ctor
kind_of (phrase.Ctor x k) = Ctor
kind_of (phrase.Fields x k) = Many Term
kind_of (phrase.MoreFields x k) = Many Term
kind_of (phrase.Field x k) = Term
kind_of (phrase.Terms x d) = Many Term
kind_of (phrase.MoreTerms x d) = Many Term
kind_of (phrase.Term x d) = Term
kind_of (phrase.Lambda x d) = Domain
kind_of (phrase.Fn x d) = Domain
kind_of (phrase.PiBinder x d) = Domain
kind_of (phrase.CaseType x d) = Maybe Term
kind_of (phrase.Branches x d) = Many Arm
kind_of (phrase.MoreBranches x d) = Many Arm
kind_of (phrase.Branch x d) = Arm
kind_of (phrase.Arrow x d) = Maybe Onto
kind_of (phrase.Chain x d) = Term
kind_of (phrase.Operands x d k) = Many Term
kind_of (phrase.Operand x d k) = Term
kind_of (phrase.App x d) = Term
kind_of (phrase.Args x d k) = Many Argument
kind_of (phrase.Arg x d k) = Argument
kind_of (phrase.Head x d) = Term
kind_of (phrase.Atom x d) = Term
kind_of (phrase.Code x d) = Term
kind_of (phrase.Brackets x d) = Maybe Bracketed
kind_of (phrase.ConBrackets x d) = Maybe Bracketed
kind_of (phrase.Second x d) = Maybe Term
kind_of phrase.Binder = Binder
kind_of phrase.Binders = Many Binder

-- the kind of a word, by how many atoms it takes
abbrev pub of_atoms : Option ℕ → Kind
of_atoms (Some n) = Word n
of_atoms None = Token

-- the kind of a symbol
abbrev pub of_symbol : Symbol → Kind
of_symbol (a n) = kind_of n
of_symbol NAME = Name
of_symbol (is (class.Word y)) = of_atoms (atoms_of y)
of_symbol (is (class.Name p)) = Name
of_symbol (is class.Whole) = Whole
of_symbol (is class.NatLit) = NatLit
of_symbol (is class.Hole) = Token
of_symbol (is (class.Mark z)) = Token
of_symbol (is class.End) = Token

-- the kinds of the symbols of a right side
abbrev pub params : Production → List Kind
params by.Empty = []
params by.Explicit = Token ∷ Token ∷ Many Decl ∷ []
params by.Prelude = Token ∷ Token ∷ Token ∷ Many Decl ∷ []
params by.Plain = Decl ∷ Many Decl ∷ []
params by.FirstDecl = Decl ∷ Many Decl ∷ []
params by.Data = Token ∷ Name ∷ Many Name ∷ Token ∷ Many Ctor ∷ Token ∷ []
params by.Meta = Token ∷ Name ∷ Token ∷ Term ∷ Token ∷ Term ∷ Token ∷ []
params by.Object = Name ∷ Token ∷ Term ∷ Token ∷ Term ∷ Token ∷ []
params by.FirstParam = Name ∷ Many Name ∷ []
params by.Param = Token ∷ Name ∷ Token ∷ Word 0 ∷ Token ∷ []
params by.FirstCtor = Ctor ∷ Many Ctor ∷ []
params by.NextCtor = Token ∷ Ctor ∷ Many Ctor ∷ []
params by.Ctor = Name ∷ Token ∷ Many Term ∷ Token ∷ []
params by.FirstTerm = Term ∷ Many Term ∷ []
params by.NextTerm = Token ∷ Term ∷ Many Term ∷ []
params by.Same = Term ∷ []
params by.Behind = Token ∷ Term ∷ []
params by.Lambda = Token ∷ Domain ∷ Token ∷ Term ∷ []
params by.Function = Token ∷ Domain ∷ Token ∷ Term ∷ []
params by.Let = Token ∷ Binder ∷ Token ∷ Term ∷ Token ∷ Term ∷ Token ∷ Term ∷ []
params by.LetV = Token ∷ Binder ∷ Token ∷ Term ∷ Token ∷ Term ∷ Token ∷ Term ∷ []
params by.LetRec = Token ∷ Binder ∷ Token ∷ Term ∷ Token ∷ Term ∷ Token ∷ Term ∷ []
params by.Pi = Token ∷ Domain ∷ Token ∷ Term ∷ []
params by.Sig = Token ∷ Token ∷ Binder ∷ Token ∷ Term ∷ Token ∷ Token ∷ Term ∷ []
params by.Case = Token ∷ Term ∷ Maybe Term ∷ Token ∷ Token ∷ Many Arm ∷ Token ∷ []
params by.Arrow = Term ∷ Maybe Onto ∷ []
params by.TypedBinder = Token ∷ Binder ∷ Token ∷ Term ∷ Token ∷ []
params by.ImplicitBinder = Token ∷ Binder ∷ Token ∷ Term ∷ Token ∷ []
params by.UntypedBinder = Binder ∷ []
params by.FirstBranch = Arm ∷ Many Arm ∷ []
params by.NextBranch = Token ∷ Arm ∷ Many Arm ∷ []
params by.Branch = Name ∷ Many Binder ∷ Token ∷ Term ∷ []
params by.OntoMeta = Token ∷ Term ∷ []
params by.OntoObject = Token ∷ Term ∷ []
params by.Chain = Term ∷ Many Term ∷ []
params by.Application = Term ∷ Many Argument ∷ []
params by.FirstArgument = Argument ∷ Many Argument ∷ []
params by.ExplicitArgument = Term ∷ []
params by.ImplicitArgument = Token ∷ Term ∷ Token ∷ []
params by.Constant = Word 0 ∷ []
params by.OneAtom = Word 1 ∷ Term ∷ []
params by.TwoAtoms = Word 2 ∷ Term ∷ Term ∷ []
params by.ThreeAtoms = Word 3 ∷ Term ∷ Term ∷ Term ∷ []
params by.FourAtoms = Word 4 ∷ Term ∷ Term ∷ Term ∷ Term ∷ []
params by.Variable = Name ∷ Maybe Bracketed ∷ []
params by.Literal = Whole ∷ []
params by.Numeral = NatLit ∷ []
params by.Construction = Token ∷ Name ∷ Maybe Bracketed ∷ Token ∷ Many Term ∷ Token ∷ []
params by.Enclosed = Token ∷ Term ∷ Maybe Term ∷ Token ∷ []
params by.Quote = Token ∷ Term ∷ Token ∷ []
params by.Splice = Token ∷ Term ∷ []
params by.Lift = Token ∷ Term ∷ []
params by.Hole = Token ∷ []
params by.Brackets = Token ∷ Many Term ∷ Token ∷ []
params by.Named = Name ∷ []
params by.Unnamed = Token ∷ []
params by.FirstBinder = Binder ∷ Many Binder ∷ []

-- a kind of which nothing is a meaning
abbrev pub IsOptional : Kind → Type 0
IsOptional (Many j) = Unit {0}
IsOptional (Maybe j) = Unit {0}
IsOptional j = ⊥

-- a right side gives a meaning of this kind
abbrev pub Gives : Production → Kind → Type 0
Gives by.Empty j = IsOptional j
Gives by.Explicit j = j ≡ Maybe Program
Gives by.Prelude j = j ≡ Maybe Program
Gives by.Plain j = j ≡ Maybe Program
Gives by.FirstDecl j = j ≡ Many Decl
Gives by.Data j = j ≡ Decl
Gives by.Meta j = j ≡ Decl
Gives by.Object j = j ≡ Decl
Gives by.FirstParam j = j ≡ Many Name
Gives by.Param j = j ≡ Name
Gives by.FirstCtor j = j ≡ Many Ctor
Gives by.NextCtor j = j ≡ Many Ctor
Gives by.Ctor j = j ≡ Ctor
Gives by.FirstTerm j = j ≡ Many Term
Gives by.NextTerm j = j ≡ Many Term
Gives by.Behind j = j ≡ Maybe Term
Gives by.TypedBinder j = j ≡ Domain
Gives by.ImplicitBinder j = j ≡ Domain
Gives by.UntypedBinder j = j ≡ Domain
Gives by.FirstBranch j = j ≡ Many Arm
Gives by.NextBranch j = j ≡ Many Arm
Gives by.Branch j = j ≡ Arm
Gives by.OntoMeta j = j ≡ Maybe Onto
Gives by.OntoObject j = j ≡ Maybe Onto
Gives by.FirstArgument j = j ≡ Many Argument
Gives by.ExplicitArgument j = j ≡ Argument
Gives by.ImplicitArgument j = j ≡ Argument
Gives by.Brackets j = j ≡ Maybe Bracketed
Gives by.Named j = j ≡ Binder
Gives by.Unnamed j = j ≡ Binder
Gives by.FirstBinder j = j ≡ Many Binder
Gives p j = j ≡ Term

-- a kind of tokens
abbrev pub IsToken : Kind → Type 0
IsToken Token = Unit {0}
IsToken Name = Unit {0}
IsToken Whole = Unit {0}
IsToken NatLit = Unit {0}
IsToken (Word n) = Unit {0}
IsToken j = ⊥
