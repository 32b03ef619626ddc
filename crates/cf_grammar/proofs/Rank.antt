-- How deep phrases are nested before their first token: a rank that falls from a phrase to the head of each right side.
use Rattle.std.specs.Prelude.{ℕ, Bool, true, false, not, ◌&&◌, nat_le, nat_lt, List, [], ◌∷◌, length, ◌≡◌, refl}
use Rattle.cf_grammar.proofs.Follow.{every}
use Rattle.cf_grammar.proofs.First.{nullable}
use Rattle.cf_grammar.specs.Grammar.{rules}
use Rattle.cf_grammar.specs.declared.phrases.Phrase.{Phrase}
use Rattle.cf_grammar.specs.declared.phrases.Phrase.TheVariants.{Program, Decls, Decl, Params, Param, Ctors, MoreCtors, Ctor, Fields, MoreFields, Field, Terms, MoreTerms, Term, Lambda, Fn, PiBinder, CaseType, Branches, MoreBranches, Branch, Arrow, Chain, App, Head, Atom, Code, Brackets, ConBrackets, Second, Operands, Operand, Args, Arg, Binder, Binders}
use Rattle.cf_grammar.specs.declared.phrases.Symbol.{Symbol}
use Rattle.cf_grammar.specs.declared.phrases.Symbol.TheVariants.{Is as is, AnyName as NAME, Phrase as a}

abbrev pub rank : Phrase → ℕ
rank Program = 3
rank (Decls x n) = 2
rank (Params n) = 2
rank (Ctors x n) = 2
rank (Branches x d) = 2
rank (Lambda x d) = 2
rank (Fn x d) = 2
rank Binders = 2
rank (Fields x n) = 8
rank (Field x n) = 7
rank (Terms x d) = 7
rank (Term x d) = 6
rank (Chain x d) = 5
rank (Operand x d n) = 5
rank (App x d) = 4
rank (Args x d n) = 4
rank (Head x d) = 3
rank (Arg x d n) = 3
rank (Atom x d) = 2
rank _ = 1

-- the rank of the top of a stack
abbrev pub top : List Symbol → ℕ
top [] = 0
top (is j ∷ ys) = 0
top (NAME ∷ ys) = 0
top (a m ∷ ys) = rank m

-- the top cannot be left out as empty
abbrev pub solid : List Symbol → Bool
solid [] = true
solid (is j ∷ ys) = true
solid (NAME ∷ ys) = true
solid (a m ∷ ys) = not (nullable (rules m))

abbrev pub falling : Phrase → List Symbol → Bool
falling m r = nat_le (length r) 8 && (nat_lt (top r) (rank m) && solid r)

abbrev pub ranked : Phrase → Bool
ranked m = nat_le (rank m) 8 && every (falling m) (rules m)

pub ranked_all : (m : Phrase) → ranked m ≡ true
ranked_all Program = refl
ranked_all Binder = refl
ranked_all Binders = refl
ranked_all (Params n) = refl
ranked_all (Param n) = refl
ranked_all (Decls true n) = refl
ranked_all (Decl true n) = refl
ranked_all (Ctors true n) = refl
ranked_all (MoreCtors true n) = refl
ranked_all (Ctor true n) = refl
ranked_all (Fields true n) = refl
ranked_all (MoreFields true n) = refl
ranked_all (Field true n) = refl
ranked_all (Terms true d) = refl
ranked_all (MoreTerms true d) = refl
ranked_all (Term true d) = refl
ranked_all (Lambda true d) = refl
ranked_all (Fn true d) = refl
ranked_all (PiBinder true d) = refl
ranked_all (CaseType true d) = refl
ranked_all (Branches true d) = refl
ranked_all (MoreBranches true d) = refl
ranked_all (Branch true d) = refl
ranked_all (Arrow true d) = refl
ranked_all (Chain true d) = refl
ranked_all (App true d) = refl
ranked_all (Head true d) = refl
ranked_all (Atom true d) = refl
ranked_all (Code true d) = refl
ranked_all (Brackets true d) = refl
ranked_all (ConBrackets true d) = refl
ranked_all (Second true d) = refl
ranked_all (Operands true d n) = refl
ranked_all (Operand true d n) = refl
ranked_all (Args true d n) = refl
ranked_all (Arg true d n) = refl
ranked_all (Decls false n) = refl
ranked_all (Decl false n) = refl
ranked_all (Ctors false n) = refl
ranked_all (MoreCtors false n) = refl
ranked_all (Ctor false n) = refl
ranked_all (Fields false n) = refl
ranked_all (MoreFields false n) = refl
ranked_all (Field false n) = refl
ranked_all (Terms false d) = refl
ranked_all (MoreTerms false d) = refl
ranked_all (Term false d) = refl
ranked_all (Lambda false d) = refl
ranked_all (Fn false d) = refl
ranked_all (PiBinder false d) = refl
ranked_all (CaseType false d) = refl
ranked_all (Branches false d) = refl
ranked_all (MoreBranches false d) = refl
ranked_all (Branch false d) = refl
ranked_all (Arrow false d) = refl
ranked_all (Chain false d) = refl
ranked_all (App false d) = refl
ranked_all (Head false d) = refl
ranked_all (Atom false d) = refl
ranked_all (Code false d) = refl
ranked_all (Brackets false d) = refl
ranked_all (ConBrackets false d) = refl
ranked_all (Second false d) = refl
ranked_all (Operands false d n) = refl
ranked_all (Operand false d n) = refl
ranked_all (Args false d n) = refl
ranked_all (Arg false d n) = refl
