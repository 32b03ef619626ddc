-- What each right side of an explicit program's phrase makes.
use Rattle.std.proofs.Common.{◌≡◌, refl, subst, ℕ, zero, suc, Bool, true, false, List, [], ◌∷◌, Option, Some}
use Rattle.std.specs.Prelude.{◌&&◌, slice_get}
use Rattle.cf_lex.specs.declared.keywords.Keyword.TheVariants as keyword
use Rattle.cf_grammar.specs.Grammar.{rules}
use Rattle.cf_grammar.specs.declared.classes.Class.TheVariants as class
use Rattle.cf_grammar.specs.declared.phrases.Phrase.{Phrase}
use Rattle.cf_grammar.specs.declared.phrases.Phrase.TheVariants as phrase
use Rattle.cf_grammar.specs.declared.phrases.Symbol.{Symbol}
use Rattle.cf_grammar.specs.declared.phrases.Symbol.TheVariants.{Is as is, AnyName as NAME, Phrase as a}
use Rattle.cf_base.specs.declared.at.At.{At}
use Rattle.cf_tree.specs.declared.heads.Head.TheVariants as head
use Rattle.cf_tree.specs.declared.heads.Op.TheVariants as op
use Rattle.cf_parse.specs.Meaning.{Action, Sem, actions, run}
use Rattle.cf_parse.specs.Meaning as meant
use Rattle.cf_printed.proofs.Meanings as kinds
use Rattle.cf_printed.proofs.Meanings.{Kind, Any, Name, Global, Whole, NatLit, Term, Domain, Argument, Onto, Bracketed, Arm, Ctor, Decl, Nothing, Word, Many, Maybe, Made, AllMade, Acts, end, next, none, left_out, a_nothing, more_acts, behind_acts, data_acts, meta_acts, object_acts, param_acts, ctor_acts, same_acts, type_acts, named_acts, unnamed_acts, typed_acts, lambda_acts, function_acts, let_acts, letv_acts, letrec_acts, pi_acts, sig_acts, case_acts, arm_acts, onto_false, onto_true, arrow_acts, chain_acts, application_acts, argument_acts, variable_acts, literal_acts, numeral_acts, construction_acts, enclosed_acts, quote_acts, splice_acts, lift_acts, brackets_acts, maybe_brackets_acts, word0, word1, word2, word3, word4}
use Rattle.cf_printed.proofs.Truth.{left, right}

pub clash : {A : Type 0} → false ≡ true → A
clash e = absurd (cc)

-- the kind of a phrase of an explicit program
abbrev pub kind_of : Phrase → Kind
kind_of phrase.Program = Nothing
kind_of (phrase.Decls x k) = Many Decl
kind_of (phrase.Decl x k) = Decl
kind_of (phrase.Params k) = Many Name
kind_of (phrase.Param k) = Name
kind_of (phrase.Ctors x k) = Many Ctor
kind_of (phrase.MoreCtors x k) = Many Ctor
kind_of (phrase.Ctor x k) = Ctor
kind_of (phrase.Fields x k) = Many Term
kind_of (phrase.MoreFields x k) = Many Term
kind_of (phrase.Field x k) = Term
kind_of (phrase.Terms x d) = Many Term
kind_of (phrase.MoreTerms x d) = Many Term
kind_of (phrase.Term x d) = Term
kind_of (phrase.Lambda x d) = Domain
kind_of (phrase.Fn x d) = Domain
kind_of (phrase.PiBinder x d) = Domain
kind_of (phrase.CaseType x d) = Term
kind_of (phrase.Branches x d) = Many Arm
kind_of (phrase.MoreBranches x d) = Many Arm
kind_of (phrase.Branch x d) = Arm
kind_of (phrase.Arrow x d) = Maybe Onto
kind_of (phrase.Chain x d) = Term
kind_of (phrase.Operands x d k) = Many Term
kind_of (phrase.Operand x d k) = Term
kind_of (phrase.App x d) = Term
kind_of (phrase.Args x d k) = Many Argument
kind_of (phrase.Arg x d k) = Argument
kind_of (phrase.Head x d) = Term
kind_of (phrase.Atom x d) = Term
kind_of (phrase.Code x d) = Term
kind_of (phrase.Brackets x d) = Maybe Bracketed
kind_of (phrase.ConBrackets x d) = Bracketed
kind_of (phrase.Second x d) = Nothing
kind_of phrase.Binder = kinds.Binder
kind_of phrase.Binders = Many kinds.Binder

-- the phrase is one of an explicit program, below its beginning
abbrev pub explicit : Phrase → Bool
explicit phrase.Program = false
explicit (phrase.Decls x k) = x
explicit (phrase.Decl x k) = x
explicit (phrase.Params k) = true
explicit (phrase.Param k) = true
explicit (phrase.Ctors x k) = x
explicit (phrase.MoreCtors x k) = x
explicit (phrase.Ctor x k) = x
explicit (phrase.Fields x k) = x
explicit (phrase.MoreFields x k) = x
explicit (phrase.Field x k) = x
explicit (phrase.Terms x d) = x
explicit (phrase.MoreTerms x d) = x
explicit (phrase.Term x d) = x
explicit (phrase.Lambda x d) = x
explicit (phrase.Fn x d) = x
explicit (phrase.PiBinder x d) = x
explicit (phrase.CaseType x d) = x
explicit (phrase.Branches x d) = x
explicit (phrase.MoreBranches x d) = x
explicit (phrase.Branch x d) = x
explicit (phrase.Arrow x d) = x
explicit (phrase.Chain x d) = x
explicit (phrase.Operands x d k) = x
explicit (phrase.Operand x d k) = x
explicit (phrase.App x d) = x
explicit (phrase.Args x d k) = x
explicit (phrase.Arg x d k) = x
explicit (phrase.Head x d) = x
explicit (phrase.Atom x d) = x
explicit (phrase.Code x d) = x
explicit (phrase.Brackets x d) = x
explicit (phrase.ConBrackets x d) = x
explicit (phrase.Second x d) = x
explicit phrase.Binder = true
explicit phrase.Binders = true

abbrev pub kind_at : Symbol → Kind
kind_at (a n) = kind_of n
kind_at NAME = Name
kind_at (is (class.Word y)) = Word y
kind_at (is (class.Name true)) = Global
kind_at (is (class.Name false)) = Name
kind_at (is class.Whole) = Whole
kind_at (is class.NatLit) = NatLit
kind_at (is class.Hole) = Any
kind_at (is (class.Mark z)) = Any
kind_at (is class.End) = Any

abbrev pub kinds_of : List Symbol → List Kind
kinds_of [] = []
kinds_of (y ∷ ys) = kind_at y ∷ kinds_of ys

abbrev pub explicit_symbol : Symbol → Bool
explicit_symbol (a n) = explicit n
explicit_symbol NAME = true
explicit_symbol (is c) = true

abbrev pub all_explicit : List Symbol → Bool
all_explicit [] = true
all_explicit (y ∷ ys) = explicit_symbol y && all_explicit ys

abbrev pub each_explicit : List (List Symbol) → Bool
each_explicit [] = true
each_explicit (r ∷ rs) = all_explicit r && each_explicit rs

pub explicit_rules : (n : Phrase) → explicit n ≡ true → each_explicit (rules n) ≡ true
explicit_rules (phrase.Decls true k) e = refl
explicit_rules (phrase.Decls false k) e = clash e
explicit_rules (phrase.Decl true k) e = refl
explicit_rules (phrase.Decl false k) e = clash e
explicit_rules (phrase.Params k) e = refl
explicit_rules (phrase.Param k) e = refl
explicit_rules (phrase.Ctors true k) e = refl
explicit_rules (phrase.Ctors false k) e = clash e
explicit_rules (phrase.MoreCtors true k) e = refl
explicit_rules (phrase.MoreCtors false k) e = clash e
explicit_rules (phrase.Ctor true k) e = refl
explicit_rules (phrase.Ctor false k) e = clash e
explicit_rules (phrase.Fields true k) e = refl
explicit_rules (phrase.Fields false k) e = clash e
explicit_rules (phrase.MoreFields true k) e = refl
explicit_rules (phrase.MoreFields false k) e = clash e
explicit_rules (phrase.Field true k) e = refl
explicit_rules (phrase.Field false k) e = clash e
explicit_rules (phrase.Terms true d) e = refl
explicit_rules (phrase.Terms false d) e = clash e
explicit_rules (phrase.MoreTerms true d) e = refl
explicit_rules (phrase.MoreTerms false d) e = clash e
explicit_rules (phrase.Term true d) e = refl
explicit_rules (phrase.Term false d) e = clash e
explicit_rules (phrase.Lambda true d) e = refl
explicit_rules (phrase.Lambda false d) e = clash e
explicit_rules (phrase.Fn true d) e = refl
explicit_rules (phrase.Fn false d) e = clash e
explicit_rules (phrase.PiBinder true d) e = refl
explicit_rules (phrase.PiBinder false d) e = clash e
explicit_rules (phrase.CaseType true d) e = refl
explicit_rules (phrase.CaseType false d) e = clash e
explicit_rules (phrase.Branches true d) e = refl
explicit_rules (phrase.Branches false d) e = clash e
explicit_rules (phrase.MoreBranches true d) e = refl
explicit_rules (phrase.MoreBranches false d) e = clash e
explicit_rules (phrase.Branch true d) e = refl
explicit_rules (phrase.Branch false d) e = clash e
explicit_rules (phrase.Arrow true d) e = refl
explicit_rules (phrase.Arrow false d) e = clash e
explicit_rules (phrase.Chain true d) e = refl
explicit_rules (phrase.Chain false d) e = clash e
explicit_rules (phrase.Operands true d k) e = refl
explicit_rules (phrase.Operands false d k) e = clash e
explicit_rules (phrase.Operand true d k) e = refl
explicit_rules (phrase.Operand false d k) e = clash e
explicit_rules (phrase.App true d) e = refl
explicit_rules (phrase.App false d) e = clash e
explicit_rules (phrase.Args true d k) e = refl
explicit_rules (phrase.Args false d k) e = clash e
explicit_rules (phrase.Arg true d k) e = refl
explicit_rules (phrase.Arg false d k) e = clash e
explicit_rules (phrase.Head true d) e = refl
explicit_rules (phrase.Head false d) e = clash e
explicit_rules (phrase.Atom true d) e = refl
explicit_rules (phrase.Atom false d) e = clash e
explicit_rules (phrase.Code true d) e = refl
explicit_rules (phrase.Code false d) e = clash e
explicit_rules (phrase.Brackets true d) e = refl
explicit_rules (phrase.Brackets false d) e = clash e
explicit_rules (phrase.ConBrackets true d) e = refl
explicit_rules (phrase.ConBrackets false d) e = clash e
explicit_rules (phrase.Second true d) e = refl
explicit_rules (phrase.Second false d) e = clash e
explicit_rules phrase.Binder e = refl
explicit_rules phrase.Binders e = refl
explicit_rules phrase.Program e = clash e

-- each right side's action makes a meaning of the phrase's kind
abbrev pub Acting : List (List Symbol) → List Action → Kind → Type 0
Acting [] fs j = Unit {0}
Acting (r ∷ rs) [] j = ⊥
Acting ([] ∷ rs) (f ∷ fs) j = ((w : ℕ) → Made j w meant.nothing) × Acting rs fs j
Acting ((y ∷ ys) ∷ rs) (f ∷ fs) j = Acts (kinds_of (y ∷ ys)) f j × Acting rs fs j

pub acting : (n : Phrase) → explicit n ≡ true → Acting (rules n) (actions n) (kind_of n)
acting (phrase.Decls true k) e = ((λ w. none), (more_acts Decl, tt))
acting (phrase.Decls false k) e = clash e
acting (phrase.Decl true k) e = (data_acts, (meta_acts, (object_acts, tt)))
acting (phrase.Decl false k) e = clash e
acting (phrase.Params k) e = ((λ w. none), (more_acts Name, tt))
acting (phrase.Param k) e = (param_acts, tt)
acting (phrase.Ctors true k) e = ((λ w. none), (more_acts Ctor, tt))
acting (phrase.Ctors false k) e = clash e
acting (phrase.MoreCtors true k) e = ((λ w. none), (behind_acts Ctor, tt))
acting (phrase.MoreCtors false k) e = clash e
acting (phrase.Ctor true k) e = (ctor_acts, tt)
acting (phrase.Ctor false k) e = clash e
acting (phrase.Fields true k) e = ((λ w. none), (more_acts Term, tt))
acting (phrase.Fields false k) e = clash e
acting (phrase.MoreFields true k) e = ((λ w. none), (behind_acts Term, tt))
acting (phrase.MoreFields false k) e = clash e
acting (phrase.Field true k) e = (same_acts, tt)
acting (phrase.Field false k) e = clash e
acting (phrase.Terms true d) e = ((λ w. none), (more_acts Term, tt))
acting (phrase.Terms false d) e = clash e
acting (phrase.MoreTerms true d) e = ((λ w. none), (behind_acts Term, tt))
acting (phrase.MoreTerms false d) e = clash e
acting (phrase.Term true d) e = (lambda_acts, (function_acts, (let_acts, (letv_acts, (letrec_acts, (pi_acts, (sig_acts, (case_acts, (arrow_acts, tt)))))))))
acting (phrase.Term false d) e = clash e
acting (phrase.Lambda true d) e = (typed_acts false, tt)
acting (phrase.Lambda false d) e = clash e
acting (phrase.Fn true d) e = (typed_acts false, tt)
acting (phrase.Fn false d) e = clash e
acting (phrase.PiBinder true d) e = (typed_acts false, tt)
acting (phrase.PiBinder false d) e = clash e
acting (phrase.CaseType true d) e = (type_acts, tt)
acting (phrase.CaseType false d) e = clash e
acting (phrase.Branches true d) e = ((λ w. none), (more_acts Arm, tt))
acting (phrase.Branches false d) e = clash e
acting (phrase.MoreBranches true d) e = ((λ w. none), (behind_acts Arm, tt))
acting (phrase.MoreBranches false d) e = clash e
acting (phrase.Branch true d) e = (arm_acts, tt)
acting (phrase.Branch false d) e = clash e
acting (phrase.Arrow true d) e = ((λ w. left_out), (onto_false, (onto_true, tt)))
acting (phrase.Arrow false d) e = clash e
acting (phrase.Chain true d) e = (chain_acts, tt)
acting (phrase.Chain false d) e = clash e
acting (phrase.Operands true d k) e = ((λ w. none), (behind_acts Term, tt))
acting (phrase.Operands false d k) e = clash e
acting (phrase.Operand true d k) e = (same_acts, tt)
acting (phrase.Operand false d k) e = clash e
acting (phrase.App true d) e = (application_acts, tt)
acting (phrase.App false d) e = clash e
acting (phrase.Args true d k) e = ((λ w. none), (more_acts Argument, tt))
acting (phrase.Args false d k) e = clash e
acting (phrase.Arg true d k) e = (argument_acts, tt)
acting (phrase.Arg false d k) e = clash e
acting (phrase.Head true d) e = (same_acts, (word1 keyword.Fail head.Fail refl tt refl refl, (word1 keyword.Fst head.Fst refl tt refl refl, (word1 keyword.Snd head.Snd refl tt refl refl, (word1 keyword.Suc head.Suc refl tt refl refl, (word1 keyword.ListTy head.ListTy refl tt refl refl, (word1 keyword.Nil head.Nil refl tt refl refl, (word1 keyword.V head.V refl tt refl refl, (word1 keyword.C head.C refl tt refl refl, (word2 keyword.Cons head.Cons refl tt refl refl, (word2 keyword.Add (head.Prim op.Add) refl tt refl refl, (word2 keyword.Sub (head.Prim op.Sub) refl tt refl refl, (word2 keyword.Mul (head.Prim op.Mul) refl tt refl refl, (word2 keyword.Div (head.Prim op.Div) refl tt refl refl, (word2 keyword.Rem (head.Prim op.Rem) refl tt refl refl, (word2 keyword.Eq (head.Prim op.Eq) refl tt refl refl, (word2 keyword.Lt (head.Prim op.Lt) refl tt refl refl, (word3 keyword.Pair head.Pair refl tt refl refl, (word3 keyword.UnitRec head.UnitRec refl tt refl refl, (word4 keyword.BoolRec head.BoolRec refl tt refl refl, (word4 keyword.NatRec head.NatRec refl tt refl refl, (word4 keyword.ListRec head.ListRec refl tt refl refl, tt))))))))))))))))))))))
acting (phrase.Head false d) e = clash e
acting (phrase.Atom true d) e = (variable_acts, (literal_acts, (numeral_acts, (construction_acts, (enclosed_acts, (quote_acts, (same_acts, (word0 keyword.MetaTy head.MetaTy refl tt refl refl, (word0 keyword.ValTy head.ValTy refl tt refl refl, (word0 keyword.CompTy head.CompTy refl tt refl refl, (word0 keyword.Ty head.Ty refl tt refl refl, (word0 keyword.UnitTy head.UnitTy refl tt refl refl, (word0 keyword.Unit head.Unit refl tt refl refl, (word0 keyword.BoolTy head.BoolTy refl tt refl refl, (word0 keyword.True head.True refl tt refl refl, (word0 keyword.False head.False refl tt refl refl, (word0 keyword.NatTy head.NatTy refl tt refl refl, (word0 keyword.Zero head.Zero refl tt refl refl, (word0 keyword.IntTy head.IntTy refl tt refl refl, tt)))))))))))))))))))
acting (phrase.Atom false d) e = clash e
acting (phrase.Code true d) e = (splice_acts, (lift_acts, tt))
acting (phrase.Code false d) e = clash e
acting (phrase.Brackets true d) e = ((λ w. left_out), (maybe_brackets_acts, tt))
acting (phrase.Brackets false d) e = clash e
acting (phrase.ConBrackets true d) e = (brackets_acts, tt)
acting (phrase.ConBrackets false d) e = clash e
acting (phrase.Second true d) e = ((λ w. a_nothing), tt)
acting (phrase.Second false d) e = clash e
acting phrase.Binder e = (named_acts, (unnamed_acts, tt))
acting phrase.Binders e = ((λ w. none), (more_acts kinds.Binder, tt))
acting phrase.Program e = clash e

-- what a right side makes, and that its symbols are explicit
abbrev pub Sides : List Symbol → (Option Action) → Kind → Type 0
Sides r f j = (all_explicit r ≡ true) × ((p : At) (w : ℕ) (vs : List Sem) → AllMade (kinds_of r) w vs → Made j w (run f p vs))

acted : (r : List Symbol) (rs : List (List Symbol)) (f : Action) (fs : List Action) (j : Kind) → Acting (r ∷ rs) (f ∷ fs) j → (p : At) (w : ℕ) (vs : List Sem) → AllMade (kinds_of r) w vs → Made j w (run (Some f) p vs)
acted [] rs f fs j h p w _ end = h.0 w
acted (y ∷ ys) rs f fs j h p w _ (next {x = x} {xs = xs} m n l) = h.0 p w (x ∷ xs) (next m n l)

acting_behind : (r : List Symbol) (rs : List (List Symbol)) (f : Action) (fs : List Action) (j : Kind) → Acting (r ∷ rs) (f ∷ fs) j → Acting rs fs j
acting_behind [] rs f fs j h = h.1
acting_behind (y ∷ ys) rs f fs j h = h.1

pub sides : (rs : List (List Symbol)) (fs : List Action) (j : Kind) → Acting rs fs j → each_explicit rs ≡ true → (n : ℕ) (r : List Symbol) → slice_get rs n ≡ Some r → Sides r (slice_get fs n) j
sides [] fs j h e n r q = absurd (cc)
sides (s ∷ rs) [] j h e n r q = absurd h
sides (s ∷ rs) (f ∷ fs) j h e zero r q =
    let k : s ≡ r = cc in
    subst (λ z. Sides z (Some f) j) k (left (all_explicit s) (each_explicit rs) e, acted s rs f fs j h)
sides (s ∷ rs) (f ∷ fs) j h e (suc n) r q = sides rs fs j (acting_behind s rs f fs j h) (right (all_explicit s) (each_explicit rs) e) n r q
