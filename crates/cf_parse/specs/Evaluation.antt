-- What the steps of a derivation make of the tokens that they take: the meanings of its symbols, from the last step to the first.
use Rattle.std.specs.Prelude.{ℕ, zero, suc, Bool, true, false, List, [], ◌∷◌, drop, length}
use Rattle.cf_base.specs.declared.at.At.{At}
use Rattle.cf_grammar.specs.declared.productions.Production.{Production}
use Rattle.cf_grammar.specs.declared.productions.Production.TheVariants as by
use Rattle.cf_grammar.specs.declared.productions.Step.{Step}
use Rattle.cf_grammar.specs.declared.productions.Step.TheVariants as step
use Rattle.cf_tree.specs.declared.heads.Head.TheVariants as head
use Rattle.cf_syntax.specs.Places.{place, front}
use Rattle.cf_parse.specs.Meaning.{Action, Sem, nothing}
use Rattle.cf_parse.specs.Meaning as meant
use Rattle.cf_parse.specs.Kinds.{params}
use Rattle.cf_parse.specs.Standing.{behind}
use Rattle.cf_syntax.specs.Tokens.{Token}

-- the action of a right side, by its kind
abbrev pub action : Production → Action
action by.Empty = meant.empty
action by.Explicit = meant.after_explicit
action by.Prelude = meant.after_use
action by.Plain = meant.without_head
action by.FirstDecl = meant.more
action by.Data = meant.data_decl
action by.Meta = meant.meta_decl
action by.Object = meant.object_decl
action by.FirstParam = meant.more
action by.Param = meant.second
action by.FirstCtor = meant.more
action by.NextCtor = meant.more_behind
action by.Ctor = meant.a_ctor
action by.FirstTerm = meant.more
action by.NextTerm = meant.more_behind
action by.Same = meant.same
action by.Behind = meant.second
action by.Lambda = meant.lambda
action by.Function = meant.function
action by.Let = meant.definition head.Let
action by.LetV = meant.definition head.LetV
action by.LetRec = meant.recursion
action by.Pi = meant.function_type
action by.Sig = meant.pair_type
action by.Case = meant.cases
action by.Arrow = meant.arrow
action by.TypedBinder = meant.typed false
action by.ImplicitBinder = meant.typed true
action by.UntypedBinder = meant.untyped
action by.FirstBranch = meant.more
action by.NextBranch = meant.more_behind
action by.Branch = meant.an_arm
action by.OntoMeta = meant.behind false
action by.OntoObject = meant.behind true
action by.Chain = meant.chain
action by.Application = meant.application
action by.FirstArgument = meant.more
action by.ExplicitArgument = meant.explicit_argument
action by.ImplicitArgument = meant.implicit_argument
action by.Constant = meant.worded
action by.OneAtom = meant.worded
action by.TwoAtoms = meant.worded
action by.ThreeAtoms = meant.worded
action by.FourAtoms = meant.worded
action by.Variable = meant.variable
action by.Literal = meant.literal
action by.Numeral = meant.numeral
action by.Construction = meant.construction
action by.Enclosed = meant.enclosed
action by.Quote = meant.quote
action by.Splice = meant.marked head.Splice
action by.Lift = meant.marked head.Lift
action by.Hole = meant.hole
action by.Brackets = meant.brackets
action by.Named = meant.named
action by.Unnamed = meant.unnamed
action by.FirstBinder = meant.more

-- how many symbols a right side has, by its kind
abbrev pub arity : Production → ℕ
arity p = length (params p)

-- the first n meanings, filled up by nothing
abbrev pub firsts : ℕ → List Sem → List Sem
firsts zero vs = []
firsts (suc n) [] = nothing ∷ firsts n []
firsts (suc n) (v ∷ vs) = v ∷ firsts n vs

-- a right side's meanings make way for that of its phrase
abbrev pub reduced : Production → At → List Sem → List Sem
reduced p at vs = action p at (firsts (arity p) vs) ∷ drop (arity p) vs

-- the byte where the next token begins, and its bytes
abbrev pub next_at : List Token → ℕ
next_at [] = 0
next_at (k ∷ ks) = k.at

abbrev pub next_text : List Token → List ℕ
next_text [] = []
next_text (k ∷ ks) = k.text

-- the meaning of the next token
abbrev pub first_token : (prelude : Bool) → List Token → Sem
first_token b ks = meant.token (place b (next_at ks)) (front ks) (next_text ks)

-- the meanings of the symbols that these steps derive, in order
abbrev pub evaluated : (prelude : Bool) → List Step → List Token → List Sem
evaluated b [] ks = []
evaluated b (step.Take ∷ ps) ks = first_token b ks ∷ evaluated b ps (behind ks)
evaluated b (step.Open p ∷ ps) ks = reduced p (place b (next_at ks)) (evaluated b ps ks)
