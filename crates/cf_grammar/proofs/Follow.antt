-- What may stand after a phrase: a table, closed under the rules.
use Rattle.cf_lex.specs.declared.keywords.Keyword.TheVariants as keyword
use Rattle.cf_lex.specs.declared.marks.Mark.TheVariants as mark
use Rattle.std.specs.Prelude.{Bool, true, false, not, ◌&&◌, ◌||◌, List, [], ◌∷◌}
use Rattle.cf_grammar.proofs.Logic.{if_so}
use Rattle.cf_grammar.specs.declared.classes.Class.TheVariants as class
use Rattle.cf_grammar.proofs.First.{nullable}
use Rattle.cf_grammar.proofs.First.{begins, fronts, same}
use Rattle.cf_grammar.specs.Grammar.{rules}
use Rattle.cf_grammar.specs.declared.classes.Class.{Class}
use Rattle.cf_grammar.specs.declared.phrases.Phrase.{Phrase}
use Rattle.cf_grammar.specs.declared.phrases.Phrase.TheVariants.{Program, Decls, Decl, Params, Param, Ctors, MoreCtors, Ctor, Fields, MoreFields, Field, Terms, MoreTerms, Term, Lambda, Fn, PiBinder, CaseType, Branches, MoreBranches, Branch, Arrow, Chain, App, Head, Atom, Code, Brackets, ConBrackets, Second, Operands, Operand, Args, Arg, Binder, Binders}
use Rattle.cf_grammar.specs.declared.phrases.Symbol.{Symbol}
use Rattle.cf_grammar.specs.declared.phrases.Symbol.TheVariants.{Is as is, AnyName as NAME, Phrase as a}

abbrev pub after_term : Class → Bool
after_term (class.Mark mark.Semicolon) = true
after_term (class.Mark mark.Becomes) = true
after_term (class.Mark mark.CloseParen) = true
after_term (class.Mark mark.CloseBracket) = true
after_term (class.Mark mark.CloseBrace) = true
after_term (class.Mark mark.Comma) = true
after_term (class.Mark mark.Greater) = true
after_term (class.Mark mark.Bar) = true
after_term (class.Mark mark.Colon) = true
after_term (class.Word keyword.Of) = true
after_term _ = false

abbrev pub after_chain : Class → Bool
after_chain (class.Mark mark.Arrow) = true
after_chain (class.Mark mark.DoubleArrow) = true
after_chain k = after_term k

abbrev pub after_app : Class → Bool
after_app (class.Mark mark.At) = true
after_app k = after_chain k

-- which tokens may follow the phrase; of a phrase that ends in a token nothing is asked
abbrev pub follows : Phrase → Class → Bool
follows Program k = same class.End k
follows (Decls x n) k = same class.End k
follows (Decl x n) k = true
follows (Params n) k = same (class.Mark mark.Becomes) k
follows (Param n) k = true
follows (Ctors x n) k = same (class.Mark mark.Semicolon) k
follows (MoreCtors x n) k = same (class.Mark mark.Semicolon) k
follows (Ctor x n) k = true
follows (Fields x n) k = same (class.Mark mark.CloseParen) k
follows (MoreFields x n) k = same (class.Mark mark.CloseParen) k
follows (Field x n) k = same (class.Mark mark.Comma) k || same (class.Mark mark.CloseParen) k
follows (Terms x d) k = same (class.Mark mark.CloseParen) k || same (class.Mark mark.CloseBracket) k
follows (MoreTerms x d) k = same (class.Mark mark.CloseParen) k || same (class.Mark mark.CloseBracket) k
follows (Term x d) k = after_term k
follows (Lambda x d) k = true
follows (Fn x d) k = true
follows (PiBinder x d) k = true
follows (CaseType x d) k = same (class.Word keyword.Of) k
follows (Branches x d) k = same (class.Mark mark.CloseBrace) k
follows (MoreBranches x d) k = same (class.Mark mark.CloseBrace) k
follows (Branch x d) k = same (class.Mark mark.Bar) k || same (class.Mark mark.CloseBrace) k
follows (Arrow x d) k = after_term k
follows (Chain x d) k = after_chain k
follows (Operands x d n) k = after_chain k
follows (Operand x d n) k = after_app k
follows (App x d) k = after_app k
follows (Args x d n) k = after_app k
follows (Arg x d n) k = not (same (class.Mark mark.OpenBracket) k)
follows (Head x d) k = not (same (class.Mark mark.OpenBracket) k)
follows (Atom x d) k = not (same (class.Mark mark.OpenBracket) k)
follows (Code x d) k = not (same (class.Mark mark.OpenBracket) k)
follows (Brackets x d) k = not (same (class.Mark mark.OpenBracket) k)
follows (ConBrackets x d) k = same (class.Mark mark.OpenParen) k
follows (Second x d) k = same (class.Mark mark.CloseParen) k
follows Binder k = true
follows Binders k = same (class.Mark mark.Dot) k

-- may these symbols be empty
abbrev pub nulls : List Symbol → Bool
nulls [] = true
nulls (is j ∷ ys) = false
nulls (NAME ∷ ys) = false
nulls (a m ∷ ys) = nullable (rules m) && nulls ys

abbrev pub every : (List Symbol → Bool) → List (List Symbol) → Bool
every f [] = true
every f (r ∷ rs) = f r && every f rs

abbrev pub no_symbols : List Symbol → Bool
no_symbols [] = true
no_symbols (y ∷ ys) = false

-- what follows each phrase within a right side of m, and at its end
abbrev pub followed : Phrase → List Symbol → Class → Bool
followed m [] k = true
followed m (is j ∷ ys) k = followed m ys k
followed m (NAME ∷ ys) k = followed m ys k
followed m (a p ∷ ys) k = if_so (fronts begins ys k) (follows p k) && (if_so (nulls ys) (if_so (follows m k) (follows p k)) && followed m ys k)

abbrev pub at_most_one : List (List Symbol) → Class → Bool → Bool
at_most_one [] k seen = true
at_most_one (r ∷ rs) k seen = if_so (fronts begins r k) (not seen) && at_most_one rs k (fronts begins r k || seen)

-- what begins a right side begins the phrase
abbrev pub firsts : Phrase → Class → Bool
firsts m k = every (λ r. if_so (fronts begins r k) (begins m k)) (rules m)

-- a token begins at most one right side
abbrev pub single : Phrase → Class → Bool
single m k = at_most_one (rules m) k false

-- where the phrase may be empty, no token both begins and follows it
abbrev pub parted : Phrase → Class → Bool
parted m k = if_so (nullable (rules m)) (not (begins m k && follows m k))

abbrev pub lasts : Phrase → Class → Bool
lasts m k = every (λ r. followed m r k) (rules m)

-- all that is asked of a phrase at a token
abbrev pub sound : Phrase → Class → Bool
sound m k = firsts m k && (single m k && (parted m k && lasts m k))

-- and of its right sides, whatever the token: only the one with no symbols may be empty, and none has the end
abbrev pub no_end : List Symbol → Bool
no_end [] = true
no_end (is class.End ∷ ys) = false
no_end (y ∷ ys) = no_end ys

-- the right side with no symbols stands once, if it does
abbrev pub one_nil : List (List Symbol) → Bool
one_nil [] = true
one_nil ([] ∷ rs) = not (nullable rs)
one_nil ((y ∷ ys) ∷ rs) = one_nil rs

abbrev pub shaped : Phrase → Bool
shaped m = every (λ r. if_so (nulls r) (no_symbols r) && no_end r) (rules m) && one_nil (rules m)
