-- What a tree of productions means: each right side of the grammar has an action, in the same order, which makes the meaning of the
-- phrase from the meanings of its symbols. A right side without symbols means nothing.
use Rattle.std.specs.Prelude.{ℕ, Bool, true, false, List, [], ◌∷◌, ◌++◌, length, map, Option, Some, None, slice_get}
use Rattle.cf_base.specs.declared.at.At.{At}
use Rattle.cf_lex.specs.declared.keywords.Keyword.{Keyword}
use Rattle.cf_grammar.specs.Grammar.{of_one, of_two, of_three, of_four, constants}
use Rattle.cf_grammar.specs.declared.classes.Class.{Class}
use Rattle.cf_grammar.specs.declared.classes.Class.TheVariants as class
use Rattle.cf_grammar.specs.declared.phrases.Phrase.{Phrase}
use Rattle.cf_grammar.specs.declared.phrases.Phrase.TheVariants as phrase
use Rattle.cf_tree.specs.declared.heads.Head.{Head}
use Rattle.cf_tree.specs.declared.heads.Head.TheVariants as head
use Rattle.cf_tree.specs.Tree as trees
use Rattle.cf_tree.specs.Tree.{Name, Named, Binder, Plain, Variable, DataAt, ConAt, Tree, tree, Trees, none, part, CtorTree, DeclTree, DataD, MetaD, ObjectD}
use Rattle.cf_syntax.specs.Numbers.{natlit_of, whole_of}
use Rattle.cf_syntax.specs.Places.{place}
use Rattle.cf_parse.specs.Derivation.{Cst, leaf, branch, Csts, nil, cons}
use Rattle.cf_parse.specs.Words.{form_of}

-- the meaning of a token or a phrase
pub data Sem : Type 0 where
  token : At → Class → Name → Sem
  -- an empty right side; a phrase and more of its kind
  nothing : Sem
  also : Sem → Sem → Sem
  term : Tree → Sem
  binder : Binder → Sem
  -- a binder with its type, if it is written
  domain : (implicit : Bool) → Binder → Option Tree → Sem
  argument : (implicit : Bool) → Tree → Sem
  -- what stands behind an arrow
  onto : (object : Bool) → Tree → Sem
  bracketed : List Tree → Sem
  arm : Named → List Binder → Tree → Sem
  ctor : CtorTree → Sem
  decl : DeclTree → Sem
  program : trees.Program → Sem

abbrev pub Action : Type 0
Action = At → List Sem → Sem

-- lists of phrases of one kind
abbrev pub terms_in : Sem → List Tree
terms_in (also (term t) xs) = t ∷ terms_in xs
terms_in v = []

abbrev pub names_in : Sem → List Name
names_in (also (token p k x) xs) = x ∷ names_in xs
names_in v = []

abbrev pub binders_in : Sem → List Binder
binders_in (also (binder b) xs) = b ∷ binders_in xs
binders_in v = []

abbrev pub ctors_in : Sem → List CtorTree
ctors_in (also (ctor c) xs) = c ∷ ctors_in xs
ctors_in v = []

abbrev pub decls_in : Sem → List DeclTree
decls_in (also (decl d) xs) = d ∷ decls_in xs
decls_in v = []

abbrev pub arms_in : Sem → Trees
arms_in (also (arm c bs t) xs) = trees.branch c bs t (arms_in xs)
arms_in v = none

-- parts under no binder
abbrev pub parts : List Tree → Trees
parts [] = none
parts (t ∷ ts) = part [] t (parts ts)

abbrev pub missing : At → Tree
missing p = tree p (Plain head.Missing) none

abbrev pub or_missing : At → Option Tree → Tree
or_missing p (Some t) = t
or_missing p None = missing p

-- a form with these parts under no binder
abbrev pub form : At → Head → List Tree → Tree
form p h ts = tree p (Plain h) (parts ts)

-- a form with two parts, the second under a binder
abbrev pub bound : At → Head → Tree → Binder → Tree → Sem
bound p h t b u = term (tree p (Plain h) (part [] t (part (b ∷ []) u none)))

-- actions for any kind of phrase
abbrev pub empty : Action
empty p vs = nothing

abbrev pub same : Action
same p (v ∷ []) = v
same p vs = nothing

abbrev pub more : Action
more p (x ∷ xs ∷ []) = also x xs
more p vs = nothing

-- behind a comma or a bar
abbrev pub more_behind : Action
more_behind p (k ∷ x ∷ xs ∷ []) = also x xs
more_behind p vs = nothing

-- between two marks, or behind one
abbrev pub second : Action
second p (k ∷ v ∷ vs) = v
second p vs = nothing

-- programs and declarations
abbrev pub a_program : (explicit prelude : Bool) → List DeclTree → Sem
a_program x p ds = program (record { explicit = x; prelude = p; decls = ds })

abbrev pub after_explicit : Action
after_explicit p (k ∷ l ∷ ds ∷ []) = a_program true false (decls_in ds)
after_explicit p vs = nothing

abbrev pub after_use : Action
after_use p (k ∷ l ∷ m ∷ ds ∷ []) = a_program false true (decls_in ds)
after_use p vs = nothing

abbrev pub without_head : Action
without_head p (d ∷ ds ∷ []) = a_program false false (decls_in (also d ds))
without_head p vs = nothing

abbrev pub data_decl : Action
data_decl p (k ∷ token q l x ∷ ps ∷ m ∷ cs ∷ vs) = decl (DataD (record { at = q; name = x }) (names_in ps) (ctors_in cs))
data_decl p vs = nothing

abbrev pub meta_decl : Action
meta_decl p (k ∷ token q l x ∷ m ∷ term a ∷ n ∷ term t ∷ vs) = decl (MetaD (record { at = q; name = x }) a t)
meta_decl p vs = nothing

abbrev pub object_decl : Action
object_decl p (token q l x ∷ m ∷ term a ∷ n ∷ term t ∷ vs) = decl (ObjectD (record { at = q; name = x }) a t)
object_decl p vs = nothing

abbrev pub a_ctor : Action
a_ctor p (token q l x ∷ k ∷ ts ∷ vs) = ctor (record { ctor = record { at = q; name = x }; fields = terms_in ts })
a_ctor p vs = nothing

-- binders
abbrev pub named : Action
named p (token q k x ∷ []) = binder (Some x)
named p vs = nothing

abbrev pub unnamed : Action
unnamed p vs = binder None

-- a binder with its type, between parentheses or braces
abbrev pub typed : (implicit : Bool) → Action
typed i p (k ∷ binder b ∷ l ∷ term a ∷ vs) = domain i b (Some a)
typed i p vs = nothing

abbrev pub untyped : Action
untyped p (binder b ∷ []) = domain false b None
untyped p vs = nothing

-- terms
-- a binder with its type, and what is under it
abbrev pub abstraction : ((implicit : Bool) → Head) → Action
abstraction h p (k ∷ domain i b a ∷ l ∷ term t ∷ []) = bound p (h i) (or_missing p a) b t
abstraction h p vs = nothing

abbrev pub lambda : Action
lambda = abstraction head.Lam

abbrev pub function : Action
function = abstraction (λ i. head.OLam)

abbrev pub function_type : Action
function_type = abstraction head.Pi

-- the variable that is bound in what it stands for, if it is
abbrev pub own : (recursive : Bool) → Binder → List Binder
own true b = b ∷ []
own false b = []

-- a type, what the variable stands for, and a last part under the variable
abbrev pub defined : Head → (recursive : Bool) → Action
defined h r p (k ∷ binder b ∷ l ∷ term a ∷ m ∷ term t ∷ n ∷ term u ∷ []) = term (tree p (Plain h) (part [] a (part (own r b) t (part (b ∷ []) u none))))
defined h r p vs = nothing

abbrev pub definition : Head → Action
definition h = defined h false

abbrev pub recursion : Action
recursion = defined head.LetRec true

abbrev pub pair_type : Action
pair_type p (k ∷ l ∷ binder b ∷ m ∷ term a ∷ n ∷ o ∷ term t ∷ []) = bound p head.Sig a b t
pair_type p vs = nothing

abbrev pub type_or : At → Sem → Tree
type_or p (term t) = t
type_or p v = missing p

abbrev pub cases : Action
cases p (k ∷ term t ∷ ty ∷ l ∷ m ∷ bs ∷ vs) = term (tree p (Plain head.Case) (part [] t (part [] (type_or p ty) (arms_in bs))))
cases p vs = nothing

abbrev pub an_arm : Action
an_arm p (token q k x ∷ bs ∷ l ∷ term t ∷ []) = arm (record { at = q; name = x }) (binders_in bs) t
an_arm p vs = nothing

abbrev pub behind : (object : Bool) → Action
behind o p (k ∷ term t ∷ []) = onto o t
behind o p vs = nothing

-- `A -> B` and `A => B`
abbrev pub arrow : Action
arrow p (term t ∷ onto false u ∷ []) = bound p (head.Pi false) t None u
arrow p (term t ∷ onto true u ∷ []) = term (form p head.Arr (t ∷ u ∷ []))
arrow p (term t ∷ nothing ∷ []) = term t
arrow p vs = nothing

-- operands and arguments join to the left
abbrev pub operands : At → Tree → Sem → Tree
operands p t (also (term u) xs) = operands p (form p head.OApp (t ∷ u ∷ [])) xs
operands p t v = t

abbrev pub chain : Action
chain p (term t ∷ xs ∷ []) = term (operands p t xs)
chain p vs = nothing

abbrev pub arguments : At → Tree → Sem → Tree
arguments p t (also (argument i u) xs) = arguments p (form p (head.App i) (t ∷ u ∷ [])) xs
arguments p t v = t

abbrev pub application : Action
application p (term t ∷ xs ∷ []) = term (arguments p t xs)
application p vs = nothing

abbrev pub explicit_argument : Action
explicit_argument p (term t ∷ []) = argument false t
explicit_argument p vs = nothing

abbrev pub implicit_argument : Action
implicit_argument p (k ∷ term t ∷ vs) = argument true t
implicit_argument p vs = nothing

abbrev pub atoms_in : List Sem → List Tree
atoms_in (term t ∷ vs) = t ∷ atoms_in vs
atoms_in vs = []

abbrev pub of_word : At → Option Head → List Tree → Sem
of_word p (Some h) ts = term (form p h ts)
of_word p None ts = nothing

-- a word and the atoms that it takes
abbrev pub worded : Action
worded p (token q (class.Word y) x ∷ vs) = of_word p (form_of y) (atoms_in vs)
worded p vs = nothing

-- atoms
abbrev pub variable : Action
variable p (token q k x ∷ bracketed ts ∷ []) = term (tree p (DataAt (record { at = q; name = x })) (parts ts))
variable p (token q k x ∷ nothing ∷ []) = term (tree p (Variable x) none)
variable p vs = nothing

abbrev pub literal : Action
literal p (token q k x ∷ []) = term (form p (head.Lit (whole_of x)) [])
literal p vs = nothing

abbrev pub numeral : Action
numeral p (token q k x ∷ []) = term (form p (head.NatLit (natlit_of x)) [])
numeral p vs = nothing

abbrev pub construction : Action
construction p (k ∷ token q l x ∷ bracketed us ∷ m ∷ ts ∷ vs) = term (tree p (ConAt (record { at = q; name = x }) (Some (length us))) (parts (us ++ terms_in ts)))
construction p (k ∷ token q l x ∷ nothing ∷ m ∷ ts ∷ vs) = term (tree p (ConAt (record { at = q; name = x }) None) (parts (terms_in ts)))
construction p vs = nothing

abbrev pub enclosed : Action
enclosed p (k ∷ term t ∷ nothing ∷ vs) = term t
enclosed p (k ∷ term t ∷ term u ∷ vs) = term (form p head.Pair (missing p ∷ t ∷ u ∷ []))
enclosed p vs = nothing

abbrev pub quote : Action
quote p (k ∷ term t ∷ vs) = term (form p head.Quote (t ∷ []))
quote p vs = nothing

abbrev pub marked : Head → Action
marked h p (k ∷ term t ∷ []) = term (form p h (t ∷ []))
marked h p vs = nothing

abbrev pub hole : Action
hole p vs = term (form p head.Hole [])

abbrev pub brackets : Action
brackets p (k ∷ ts ∷ vs) = bracketed (terms_in ts)
brackets p vs = nothing

abbrev pub words : List Keyword → List Action
words = map (λ y. worded)

-- an action for each right side of `rules`
abbrev pub actions : Phrase → List Action
actions phrase.Program = after_explicit ∷ after_use ∷ without_head ∷ empty ∷ []
actions (phrase.Decls x k) = empty ∷ more ∷ []
actions (phrase.Decl x k) = data_decl ∷ meta_decl ∷ object_decl ∷ []
actions (phrase.Params k) = empty ∷ more ∷ []
actions (phrase.Param k) = second ∷ []
actions (phrase.Ctors x k) = empty ∷ more ∷ []
actions (phrase.MoreCtors x k) = empty ∷ more_behind ∷ []
actions (phrase.Ctor x k) = a_ctor ∷ []
actions (phrase.Fields x k) = empty ∷ more ∷ []
actions (phrase.MoreFields x k) = empty ∷ more_behind ∷ []
actions (phrase.Field x k) = same ∷ []
actions (phrase.Terms x d) = empty ∷ more ∷ []
actions (phrase.MoreTerms x d) = empty ∷ more_behind ∷ []
actions (phrase.Term x d) = lambda ∷ function ∷ definition head.Let ∷ definition head.LetV ∷ recursion ∷ function_type ∷ pair_type ∷ cases ∷ arrow ∷ []
actions (phrase.Lambda x d) = typed false ∷ typed true ∷ untyped ∷ []
actions (phrase.Fn x d) = typed false ∷ untyped ∷ []
actions (phrase.PiBinder x d) = typed false ∷ typed true ∷ []
actions (phrase.CaseType x d) = second ∷ empty ∷ []
actions (phrase.Branches x d) = empty ∷ more ∷ []
actions (phrase.MoreBranches x d) = empty ∷ more_behind ∷ []
actions (phrase.Branch x d) = an_arm ∷ []
actions (phrase.Arrow x d) = empty ∷ behind false ∷ behind true ∷ []
actions (phrase.Chain x d) = chain ∷ []
actions (phrase.Operands x d k) = empty ∷ more_behind ∷ []
actions (phrase.Operand x d k) = same ∷ []
actions (phrase.App x d) = application ∷ []
actions (phrase.Args x d k) = empty ∷ more ∷ []
actions (phrase.Arg x d k) = explicit_argument ∷ implicit_argument ∷ []
actions (phrase.Head x d) = same ∷ (words of_one ++ words of_two ++ words of_three ++ words of_four)
actions (phrase.Atom x d) = variable ∷ literal ∷ numeral ∷ construction ∷ enclosed ∷ quote ∷ same ∷ (words constants ++ hole ∷ [])
actions (phrase.Code x d) = marked head.Splice ∷ marked head.Lift ∷ []
actions (phrase.Brackets x d) = empty ∷ brackets ∷ []
actions (phrase.ConBrackets x d) = brackets ∷ empty ∷ []
actions (phrase.Second x d) = empty ∷ second ∷ []
actions phrase.Binder = named ∷ unnamed ∷ []
actions phrase.Binders = empty ∷ more ∷ []

abbrev pub run : Option Action → Action
run o p [] = nothing
run (Some f) p (v ∷ vs) = f p (v ∷ vs)
run None p (v ∷ vs) = nothing

-- the meaning of a phrase at a place, by its right side with this number
abbrev pub meaning : Phrase → ℕ → Action
meaning n which = run (slice_get (actions n) which)

-- the meaning of a tree
abbrev mutual
  pub value : (prelude : Bool) → Cst → Sem
  value b (leaf k) = token (place b k.at) k.class k.text
  value b (branch n which at cs) = meaning n which (place b at) (values b cs)

  pub values : (prelude : Bool) → Csts → List Sem
  values b nil = []
  values b (cons c cs) = value b c ∷ values b cs

-- a program of no declaration has the empty right side
abbrev pub program_in : Sem → Option trees.Program
program_in (program p) = Some p
program_in nothing = Some (record { explicit = false; prelude = false; decls = [] })
program_in v = None

-- the program that a tree of productions is
abbrev pub program_of : (prelude : Bool) → Cst → Option trees.Program
program_of b c = program_in (value b c)
