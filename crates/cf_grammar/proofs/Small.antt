-- The numbers of phrases on the stack stay within the limits: an item that passes its limit is refused before what stands below it is reached.
use Rattle.std.specs.Prelude.{ℕ, zero, suc, ◌≤◌, ◌<◌, Bool, true, false, List, [], ◌∷◌, ◌++◌, replicate, Some, None, nat_lt, if◌then◌else◌, ◌≡◌, refl}
use Rattle.std.proofs.Common.{arith}
use Rattle.std.proofs.lemmas.Bool.{ltb-true}
use mathlib.Core.Path.{ap, sym}
use Rattle.cf_base.specs.declared.limit.Limit.TheVariants as limit
use Rattle.cf_lex.specs.declared.keywords.Keyword.{Keyword}
use Rattle.cf_grammar.specs.declared.classes.Class.TheVariants as class
use Rattle.cf_grammar.specs.Grammar.{rules, short, words, constants, of_one, of_two, of_three, of_four, Among, first, other}
use Rattle.cf_grammar.specs.Refusing.{from, over}
use Rattle.cf_grammar.specs.Walking.{IsSmall}
use Rattle.cf_grammar.specs.declared.endings.Fault.{Fault}
use Rattle.cf_grammar.specs.declared.endings.Fault.TheVariants.{Many, Nested}
use Rattle.cf_grammar.specs.declared.phrases.Phrase.{Phrase}
use Rattle.cf_grammar.specs.declared.phrases.Phrase.TheVariants.{Program, Decls, Decl, Params, Param, Ctors, MoreCtors, Ctor, Fields, MoreFields, Field, Terms, MoreTerms, Term, Lambda, Fn, PiBinder, CaseType, Branches, MoreBranches, Branch, Arrow, Chain, Operands, Operand, App, Args, Arg, Head, Atom, Code, Brackets, ConBrackets, Second, Binder, Binders}
use Rattle.cf_grammar.specs.declared.phrases.Symbol.{Symbol}
use Rattle.cf_grammar.specs.declared.phrases.Symbol.TheVariants.{Is as is, AnyName as NAME, Phrase as a}
use Rattle.cf_grammar.proofs.Logic.{clash}

-- each phrase is small, once those above it have not passed a limit
abbrev pub AllSmall : List Symbol → Type 0
AllSmall [] = Unit {0}
AllSmall (is j ∷ ys) = AllSmall ys
AllSmall (NAME ∷ ys) = AllSmall ys
AllSmall (a m ∷ ys) = IsSmall m × (over m ≡ None → AllSmall ys)

abbrev EachSmall : List (List Symbol) → Type 0
EachSmall [] = Unit {0}
EachSmall (r ∷ rs) = AllSmall r × EachSmall rs

small_of : {r : List Symbol} {rs : List (List Symbol)} → Among r rs → EachSmall rs → AllSmall r
small_of first e = e.0
small_of (other i) e = small_of i e.1

small_joined : (r ys : List Symbol) → AllSmall r → AllSmall ys → AllSmall (r ++ ys)
small_joined [] ys p q = q
small_joined (is j ∷ r) ys p q = small_joined r ys p q
small_joined (NAME ∷ r) ys p q = small_joined r ys p q
small_joined (a m ∷ r) ys p q = (p.0, λ o. small_joined r ys (p.1 o) q)

joined_rules : (rs ss : List (List Symbol)) → EachSmall rs → EachSmall ss → EachSmall (rs ++ ss)
joined_rules [] ss p q = q
joined_rules (r ∷ rs) ss p q = (p.0, joined_rules rs ss p.1 q)

below : (least n : ℕ) (f : Fault) → from least n f ≡ None → suc n ≤ least
below least n f e = by_test (nat_lt n least) refl e
  where
    by_test : (b : Bool) → nat_lt n least ≡ b → (if b then None else Some f) ≡ None → suc n ≤ least
    by_test true t e = let p : n < least = ltb-true n least t in omega arith
    by_test false t e = clash (sym (ap (λ o. elim o [ None ↦ true | Some x ↦ false ]) e))

atoms : (x : Bool) (d n : ℕ) → d ≤ 200 → AllSmall (replicate n (a (Atom x d)))
atoms x d zero p = tt
atoms x d (suc n) p = (p, λ o. atoms x d n p)

small_words : (x : Bool) (d n : ℕ) (ys : List Keyword) → d ≤ 200 → EachSmall (words x d n ys)
small_words x d n [] p = tt
small_words x d n (y ∷ ys) p = (atoms x d n p, small_words x d n ys p)

more : (d : ℕ) → d ≤ 200 → suc d ≤ 201
more d p = omega arith

less : (d : ℕ) → suc d ≤ 201 → d ≤ 200
less d p = omega arith

none_of : (n : ℕ) → 0 ≤ n
none_of n = omega arith

-- the right sides of a term
term : (x : Bool) (d : ℕ) → d ≤ 200 → suc d ≤ 201 → EachSmall (rules (Term x d))
term x d p s = (
  (p, λ o. (s, λ o. tt)),
  (
    (p, λ o. (s, λ o. tt)),
    (
      (tt, λ o. (s, λ o. (s, λ o. (s, λ o. tt)))),
      (
        (tt, λ o. (s, λ o. (s, λ o. (s, λ o. tt)))),
        (
          (tt, λ o. (s, λ o. (s, λ o. (s, λ o. tt)))),
          (
            (p, λ o. (s, λ o. tt)),
            (
              (tt, λ o. (s, λ o. (s, λ o. tt))),
              ((s, λ o. (p, λ o. (p, λ o. tt))), ((p, λ o. (p, λ o. tt)), tt)),
            ),
          ),
        ),
      ),
    ),
  ),
)

-- of an atom
atom : (x : Bool) (d : ℕ) → d ≤ 200 → suc d ≤ 201 → EachSmall (rules (Atom x d))
atom x d p s = (
  (p, λ o. tt),
  (
    tt,
    (
      tt,
      (
        (p, λ o. (p, λ o. tt)),
        ((s, λ o. (p, λ o. tt)), ((s, λ o. tt), ((s, λ o. tt), joined_rules (words x d 0 constants) (short x ((is class.Hole ∷ []) ∷ [])) (small_words x d 0 constants p) (hole x)))),
      ),
    ),
  ),
)
  where
    hole : (x : Bool) → EachSmall (short x ((is class.Hole ∷ []) ∷ []))
    hole true = tt
    hole false = (tt, tt)

head : (x : Bool) (d : ℕ) → d ≤ 200 → EachSmall (rules (Head x d))
head x d p = (
  (p, λ o. tt),
  joined_rules (words x d 1 of_one) (words x d 2 of_two ++ words x d 3 of_three ++ words x d 4 of_four) (small_words x d 1 of_one p)
      (joined_rules (words x d 2 of_two) (words x d 3 of_three ++ words x d 4 of_four) (small_words x d 2 of_two p)
      (joined_rules (words x d 3 of_three) (words x d 4 of_four) (small_words x d 3 of_three p) (small_words x d 4 of_four p))),
)

small_rules : (m : Phrase) → IsSmall m → over m ≡ None → EachSmall (rules m)
small_rules Program p o = ((none_of 4096, λ o. tt), ((none_of 4096, λ o. tt), ((none_of 4096, λ o. (omega arith, λ o. tt)), (tt, tt))))
small_rules (Decls x k) p o = (tt, ((p, λ o. (below 4096 k (Many limit.Declarations) o, λ o. tt)), tt))
small_rules (Decl x k) p o = ((none_of 16, λ o. (none_of 256, λ o. tt)), ((omega arith, λ o. (omega arith, λ o. tt)), ((omega arith, λ o. (omega arith, λ o. tt)), tt)))
small_rules (Params k) p o = (tt, ((p, λ o. (below 16 k (Many limit.Parameters) o, λ o. tt)), tt))
small_rules (Param k) p o = (tt, tt)
small_rules (Ctors x k) p o = (tt, ((p, λ o. (below 256 k (Many limit.Constructors) o, λ o. tt)), tt))
small_rules (MoreCtors x k) p o = (tt, ((p, λ o. (below 256 k (Many limit.Constructors) o, λ o. tt)), tt))
small_rules (Ctor x k) p o = ((none_of 16, λ o. tt), tt)
small_rules (Fields x k) p o = (tt, ((p, λ o. (below 16 k (Many limit.Fields) o, λ o. tt)), tt))
small_rules (MoreFields x k) p o = (tt, ((p, λ o. (below 16 k (Many limit.Fields) o, λ o. tt)), tt))
small_rules (Field x k) p o = ((omega arith, λ o. tt), tt)
small_rules (Terms x d) p o = (tt, ((more d p, λ o. (p, λ o. tt)), tt))
small_rules (MoreTerms x d) p o = (tt, ((more d p, λ o. (p, λ o. tt)), tt))
small_rules (Term x d) p o = let s : suc d ≤ 201 = below 201 d Nested o in term x d (less d s) s
small_rules (Lambda true d) p o = ((tt, λ o. (more d p, λ o. tt)), tt)
small_rules (Lambda false d) p o = ((tt, λ o. (more d p, λ o. tt)), ((tt, λ o. (more d p, λ o. tt)), ((tt, λ o. tt), tt)))
small_rules (Fn true d) p o = ((tt, λ o. (more d p, λ o. tt)), tt)
small_rules (Fn false d) p o = ((tt, λ o. (more d p, λ o. tt)), ((tt, λ o. tt), tt))
small_rules (PiBinder true d) p o = ((tt, λ o. (more d p, λ o. tt)), tt)
small_rules (PiBinder false d) p o = ((tt, λ o. (more d p, λ o. tt)), ((tt, λ o. (more d p, λ o. tt)), tt))
small_rules (CaseType true d) p o = ((more d p, λ o. tt), tt)
small_rules (CaseType false d) p o = ((more d p, λ o. tt), (tt, tt))
small_rules (Branches x d) p o = (tt, ((p, λ o. (p, λ o. tt)), tt))
small_rules (MoreBranches x d) p o = (tt, ((p, λ o. (p, λ o. tt)), tt))
small_rules (Branch x d) p o = ((tt, λ o. (more d p, λ o. tt)), tt)
small_rules (Arrow x d) p o = (tt, ((more d p, λ o. tt), ((more d p, λ o. tt), tt)))
small_rules (Chain x d) p o = ((p, λ o. ((p, none_of 16), λ o. tt)), tt)
small_rules (Operands x d k) p o = (tt, (((p.0, p.1), λ o. ((p.0, below 16 k (Many limit.Arguments) o), λ o. tt)), tt))
small_rules (Operand x d k) p o = ((p.0, λ o. tt), tt)
small_rules (App x d) p o = ((p, λ o. ((p, none_of 16), λ o. tt)), tt)
small_rules (Args x d k) p o = (tt, (((p.0, p.1), λ o. ((p.0, below 16 k (Many limit.Arguments) o), λ o. tt)), tt))
small_rules (Arg true d k) p o = ((p.0, λ o. tt), tt)
small_rules (Arg false d k) p o = ((p.0, λ o. tt), ((more d p.0, λ o. tt), tt))
small_rules (Head x d) p o = head x d p
small_rules (Atom x d) p o = atom x d p (more d p)
small_rules (Code x d) p o = let s : suc d ≤ 201 = below 201 d Nested o in ((less d s, λ o. tt), ((less d s, λ o. tt), tt))
small_rules (Brackets x d) p o = (tt, ((p, λ o. tt), tt))
small_rules (ConBrackets true d) p o = ((p, λ o. tt), tt)
small_rules (ConBrackets false d) p o = ((p, λ o. tt), (tt, tt))
small_rules (Second true d) p o = (tt, tt)
small_rules (Second false d) p o = (tt, ((more d p, λ o. tt), tt))
small_rules Binder p o = (tt, (tt, tt))
small_rules Binders p o = (tt, ((tt, λ o. (tt, λ o. tt)), tt))

-- opening a phrase that passes no limit keeps the stack small
pub small_opened : (m : Phrase) {r : List Symbol} (ys : List Symbol) → Among r (rules m) → over m ≡ None → AllSmall (a m ∷ ys) → AllSmall (r ++ ys)
small_opened m {r} ys i o p = small_joined r ys (small_of i (small_rules m p.0 o)) (p.1 o)
