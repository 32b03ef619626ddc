-- By which right side each phrase is opened, and the steps of a derivation.
use Rattle.std.specs.Prelude.{ℕ, zero, suc, List, [], ◌∷◌, ◌++◌, map, Option, Some, None}
use Rattle.cf_grammar.specs.declared.classes.Class.{Class}
use Rattle.cf_grammar.specs.declared.phrases.Phrase.{Phrase}
use Rattle.cf_grammar.specs.declared.phrases.Phrase.TheVariants.{Program, Decls, Decl, Params, Param, Ctors, MoreCtors, Ctor, Fields, MoreFields, Field, Terms, MoreTerms, Term, Lambda, Fn, PiBinder, CaseType, Branches, MoreBranches, Branch, Arrow, Chain, Operands, Operand, App, Args, Arg, Head, Atom, Code, Brackets, ConBrackets, Second, Binder, Binders}
use Rattle.cf_grammar.specs.declared.phrases.Symbol.{Symbol}
use Rattle.cf_grammar.specs.declared.phrases.Symbol.TheVariants.{Is as is, AnyName as NAME, Phrase as a}
use Rattle.cf_grammar.specs.declared.productions.Production.{Production}
use Rattle.cf_grammar.specs.declared.productions.Production.TheVariants as by
use Rattle.cf_grammar.specs.declared.productions.Step.{Step}
use Rattle.cf_grammar.specs.declared.productions.Step.TheVariants as step
use Rattle.cf_grammar.specs.Grammar.{Takes, constants, of_one, of_two, of_three, of_four}
use Rattle.cf_grammar.specs.Choosing.{which, side}

-- the kinds of the right sides of each phrase, in the order of `rules`; those that an explicit program has not stand last, and are listed too
abbrev pub productions : Phrase → List Production
productions Program = by.Explicit ∷ by.Prelude ∷ by.Plain ∷ by.Empty ∷ []
productions (Decls x k) = by.Empty ∷ by.FirstDecl ∷ []
productions (Decl x k) = by.Data ∷ by.Meta ∷ by.Object ∷ []
productions (Params k) = by.Empty ∷ by.FirstParam ∷ []
productions (Param k) = by.Param ∷ []
productions (Ctors x k) = by.Empty ∷ by.FirstCtor ∷ []
productions (MoreCtors x k) = by.Empty ∷ by.NextCtor ∷ []
productions (Ctor x k) = by.Ctor ∷ []
productions (Fields x k) = by.Empty ∷ by.FirstTerm ∷ []
productions (MoreFields x k) = by.Empty ∷ by.NextTerm ∷ []
productions (Field x k) = by.Same ∷ []
productions (Terms x d) = by.Empty ∷ by.FirstTerm ∷ []
productions (MoreTerms x d) = by.Empty ∷ by.NextTerm ∷ []
productions (Term x d) = by.Lambda ∷ by.Function ∷ by.Let ∷ by.LetV ∷ by.LetRec ∷ by.Pi ∷ by.Sig ∷ by.Case ∷ by.Arrow ∷ []
productions (Lambda x d) = by.TypedBinder ∷ by.ImplicitBinder ∷ by.UntypedBinder ∷ []
productions (Fn x d) = by.TypedBinder ∷ by.UntypedBinder ∷ []
productions (PiBinder x d) = by.TypedBinder ∷ by.ImplicitBinder ∷ []
productions (CaseType x d) = by.Behind ∷ by.Empty ∷ []
productions (Branches x d) = by.Empty ∷ by.FirstBranch ∷ []
productions (MoreBranches x d) = by.Empty ∷ by.NextBranch ∷ []
productions (Branch x d) = by.Branch ∷ []
productions (Arrow x d) = by.Empty ∷ by.OntoMeta ∷ by.OntoObject ∷ []
productions (Chain x d) = by.Chain ∷ []
productions (Operands x d k) = by.Empty ∷ by.NextTerm ∷ []
productions (Operand x d k) = by.Same ∷ []
productions (App x d) = by.Application ∷ []
productions (Args x d k) = by.Empty ∷ by.FirstArgument ∷ []
productions (Arg x d k) = by.ExplicitArgument ∷ by.ImplicitArgument ∷ []
productions (Head x d) = by.Same ∷ (map (λ y. by.OneAtom) of_one ++ map (λ y. by.TwoAtoms) of_two ++ map (λ y. by.ThreeAtoms) of_three ++ map (λ y. by.FourAtoms) of_four)
productions (Atom x d) =
    by.Variable ∷ by.Literal ∷ by.Numeral ∷ by.Construction ∷ by.Enclosed ∷ by.Quote ∷ by.Same
    ∷ (map (λ y. by.Constant) constants ++ by.Hole ∷ [])
productions (Code x d) = by.Splice ∷ by.Lift ∷ []
productions (Brackets x d) = by.Empty ∷ by.Brackets ∷ []
productions (ConBrackets x d) = by.Brackets ∷ by.Empty ∷ []
productions (Second x d) = by.Empty ∷ by.Behind ∷ []
productions Binder = by.Named ∷ by.Unnamed ∷ []
productions Binders = by.Empty ∷ by.FirstBinder ∷ []

-- the kind with a number; without one, or past the end, that of the empty right side
abbrev pub at_number : List Production → Option ℕ → Production
at_number ps None = by.Empty
at_number [] (Some n) = by.Empty
at_number (p ∷ ps) (Some zero) = p
at_number (p ∷ ps) (Some (suc n)) = at_number ps (Some n)

-- the kind of the right side of a phrase for a token: of the one that begins with it, else of the empty one
abbrev pub production : Phrase → Class → Production
production n k = at_number (productions n) (which n k)

-- the step of a symbol at a token
abbrev pub step_of : Symbol → Class → Step
step_of (a n) k = step.Open (production n k)
step_of (is j) k = step.Take
step_of NAME k = step.Take

-- the steps by which these symbols derive these tokens: a token is taken, or a phrase is opened by the right side that its next token tells
pub data Follows : List Symbol → List Step → List Class → Type 0 where
  done : Follows [] [] []
  take : {y : Symbol} {k : Class} {ys : List Symbol} {ps : List Step} {ks : List Class} → Takes y k → Follows ys ps ks → Follows (y ∷ ys) (step.Take ∷ ps) (k ∷ ks)
  opened : {n : Phrase} {k : Class} {ys : List Symbol} {ps : List Step} {ks : List Class} → Follows (side n k ++ ys) ps (k ∷ ks) → Follows (a n ∷ ys) (step.Open (production n k) ∷ ps) (k ∷ ks)
