-- Every stack derives some text.
use Rattle.cf_lex.specs.declared.marks.Mark.TheVariants as mark
use Rattle.std.specs.Prelude.{ℕ, suc, Bool, true, List, [], ◌∷◌, ◌++◌}
use Rattle.cf_grammar.specs.declared.classes.Class.TheVariants as class
use Rattle.cf_grammar.specs.Grammar.{rules, exact, any_name, Among, first, other, Derives, done, token, phrase}
use Rattle.cf_grammar.specs.declared.classes.Class.{Class}
use Rattle.cf_grammar.specs.declared.phrases.Phrase.{Phrase}
use Rattle.cf_grammar.specs.declared.phrases.Phrase.TheVariants.{Program, Decls, Decl, Params, Param, Ctors, MoreCtors, Ctor, Fields, MoreFields, Field, Terms, MoreTerms, Term, Lambda, Fn, PiBinder, CaseType, Branches, MoreBranches, Branch, Arrow, Chain, App, Head, Atom, Code, Brackets, ConBrackets, Second, Operands, Operand, Args, Arg, Binder, Binders}
use Rattle.cf_grammar.specs.declared.phrases.Symbol.{Symbol}
use Rattle.cf_grammar.specs.declared.phrases.Symbol.TheVariants.{Is as is, AnyName as NAME, Phrase as a}

-- these symbols derive some text
abbrev pub Lives : List Symbol → Type 0
Lives ys = (ks : List Class) × Derives ys ks

at_token : {k : Class} {ys : List Symbol} → Lives ys → Lives (is k ∷ ys)
at_token {k} l = (k ∷ l.0, token exact l.1)

at_name : {ys : List Symbol} → Lives ys → Lives (NAME ∷ ys)
at_name l = (class.Name true ∷ l.0, token any_name l.1)

by : {n : Phrase} {r ys : List Symbol} → Among r (rules n) → Lives (r ++ ys) → Lives (a n ∷ ys)
by i l = (l.0, phrase i l.1)

atom : (x : Bool) (d : ℕ) {ys : List Symbol} → Lives ys → Lives (a (Atom x d) ∷ ys)
atom x d l = by (other first) (at_token l)

head : (x : Bool) (d : ℕ) {ys : List Symbol} → Lives ys → Lives (a (Head x d) ∷ ys)
head x d l = by first (atom x d l)

app : (x : Bool) (d : ℕ) {ys : List Symbol} → Lives ys → Lives (a (App x d) ∷ ys)
app x d l = by first (head x d (by first l))

term : (x : Bool) (d : ℕ) {ys : List Symbol} → Lives ys → Lives (a (Term x d) ∷ ys)
term x d l = by (other (other (other (other (other (other (other (other first)))))))) (by first (app x d (by first (by first l))))

binder : {ys : List Symbol} → Lives ys → Lives (a Binder ∷ ys)
binder l = by first (at_name l)

-- between parentheses
typed_one : (x : Bool) (d : ℕ) {ys : List Symbol} → Lives ys → Lives (is (class.Mark mark.OpenParen) ∷ a Binder ∷ is (class.Mark mark.Colon) ∷ a (Term x (suc d)) ∷ is (class.Mark mark.CloseParen) ∷ ys)
typed_one x d l = at_token (binder (at_token (term x (suc d) (at_token l))))

ctor : (x : Bool) (n : ℕ) {ys : List Symbol} → Lives ys → Lives (a (Ctor x n) ∷ ys)
ctor x n l = by first (at_token (at_token (by first (at_token l))))

-- each phrase derives some text, and more after it
pub grow : (m : Phrase) {ys : List Symbol} → Lives ys → Lives (a m ∷ ys)
grow Program l = by (other (other (other first))) l
grow (Decls x n) l = by first l
grow (Decl x n) l = by (other (other first)) (at_token (at_token (term x 1 (at_token (term x 1 (at_token l))))))
grow (Params n) l = by first l
grow (Param n) l = by first (at_token (at_name (at_token (at_token (at_token l)))))
grow (Ctors x n) l = by first l
grow (MoreCtors x n) l = by first l
grow (Ctor x n) l = ctor x n l
grow (Fields x n) l = by first l
grow (MoreFields x n) l = by first l
grow (Field x n) l = by first (term x 1 l)
grow (Terms x d) l = by first l
grow (MoreTerms x d) l = by first l
grow (Term x d) l = term x d l
grow (Lambda x d) l = by first (typed_one x d l)
grow (Fn x d) l = by first (typed_one x d l)
grow (PiBinder x d) l = by first (typed_one x d l)
grow (CaseType x d) l = by first (at_token (term x (suc d) l))
grow (Branches x d) l = by first l
grow (MoreBranches x d) l = by first l
grow (Branch x d) l = by first (at_name (by first (at_token (term x (suc d) l))))
grow (Arrow x d) l = by first l
grow (Chain x d) l = by first (app x d (by first l))
grow (App x d) l = app x d l
grow (Head x d) l = head x d l
grow (Atom x d) l = atom x d l
grow (Brackets x d) l = by first l
grow (ConBrackets x d) l = by first (at_token (by first (at_token l)))
grow (Second x d) l = by first l
grow (Operands x d n) l = by first l
grow (Operand x d n) l = by first (app x d l)
grow (Args x d n) l = by first l
grow (Arg x d n) l = by first (atom x d l)
grow (Code x d) l = by first (at_token (atom x d l))
grow Binder l = binder l
grow Binders l = by first l

pub lives : (ys : List Symbol) → Lives ys
lives [] = ([], done)
lives (is k ∷ ys) = at_token (lives ys)
lives (NAME ∷ ys) = at_name (lives ys)
lives (a m ∷ ys) = grow m (lives ys)
