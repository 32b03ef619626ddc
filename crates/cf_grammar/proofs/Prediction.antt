-- The table of right sides by tokens: computed over all token classes.
use Rattle.std.specs.Prelude.{ℕ, suc, Bool, true, false, nat_eq, List, [], ◌∷◌, Option, Some, None, ◌≡◌, refl}
use mathlib.Core.Path.{ap, sym, subst}
use Rattle.std.proofs.lemmas.Bool.{eqb-true}
use Rattle.cf_grammar.proofs.Logic.{clash}
use Rattle.cf_grammar.proofs.EachClass.{all, classes, each}
use Rattle.cf_grammar.proofs.First.{begins, fronts}
use Rattle.cf_grammar.specs.Choosing.{is_chosen, starts, which, numbered, side}
use Rattle.cf_grammar.specs.Grammar.{rules, Among, first, other}
use Rattle.cf_grammar.specs.declared.classes.Class.{Class}
use Rattle.cf_grammar.specs.declared.phrases.Phrase.{Phrase}
use Rattle.cf_grammar.specs.declared.phrases.Phrase.TheVariants.{Program, Decls, Decl, Params, Param, Ctors, MoreCtors, Ctor, Fields, MoreFields, Field, Terms, MoreTerms, Term, Lambda, Fn, PiBinder, CaseType, Branches, MoreBranches, Branch, Arrow, Chain, App, Head, Atom, Code, Brackets, ConBrackets, Second, Operands, Operand, Args, Arg, Binder, Binders}
use Rattle.cf_grammar.specs.declared.phrases.Symbol.{Symbol}

-- the number of the first right side that begins with the token
abbrev if_first : Bool → Option ℕ → Option ℕ
if_first true o = Some 0
if_first false None = None
if_first false (Some n) = Some (suc n)

abbrev first_number : List (List Symbol) → Class → Option ℕ
first_number [] k = None
first_number (r ∷ rs) k = let others = first_number rs k in if_first (fronts begins r k) others

abbrev same_number : Option ℕ → Option ℕ → Bool
same_number None None = true
same_number (Some n) (Some m) = nat_eq n m
same_number _ _ = false

same_number_eq : (o p : Option ℕ) → same_number o p ≡ true → o ≡ p
same_number_eq None None e = refl
same_number_eq (Some n) (Some m) e = ap Some (eqb-true n m e)
same_number_eq None (Some m) e = clash (sym e)
same_number_eq (Some n) None e = clash (sym e)

abbrev agrees : Phrase → Class → Bool
agrees m k = same_number (first_number (rules m) k) (which m k)

agrees_all : (m : Phrase) → all (agrees m) classes ≡ true
agrees_all Program = refl
agrees_all Binder = refl
agrees_all Binders = refl
agrees_all (Params n) = refl
agrees_all (Param n) = refl
agrees_all (Decls true n) = refl
agrees_all (Decl true n) = refl
agrees_all (Ctors true n) = refl
agrees_all (MoreCtors true n) = refl
agrees_all (Ctor true n) = refl
agrees_all (Fields true n) = refl
agrees_all (MoreFields true n) = refl
agrees_all (Field true n) = refl
agrees_all (Terms true d) = refl
agrees_all (MoreTerms true d) = refl
agrees_all (Term true d) = refl
agrees_all (Lambda true d) = refl
agrees_all (Fn true d) = refl
agrees_all (PiBinder true d) = refl
agrees_all (CaseType true d) = refl
agrees_all (Branches true d) = refl
agrees_all (MoreBranches true d) = refl
agrees_all (Branch true d) = refl
agrees_all (Arrow true d) = refl
agrees_all (Chain true d) = refl
agrees_all (App true d) = refl
agrees_all (Head true d) = refl
agrees_all (Atom true d) = refl
agrees_all (Code true d) = refl
agrees_all (Brackets true d) = refl
agrees_all (ConBrackets true d) = refl
agrees_all (Second true d) = refl
agrees_all (Operands true d n) = refl
agrees_all (Operand true d n) = refl
agrees_all (Args true d n) = refl
agrees_all (Arg true d n) = refl
agrees_all (Decls false n) = refl
agrees_all (Decl false n) = refl
agrees_all (Ctors false n) = refl
agrees_all (MoreCtors false n) = refl
agrees_all (Ctor false n) = refl
agrees_all (Fields false n) = refl
agrees_all (MoreFields false n) = refl
agrees_all (Field false n) = refl
agrees_all (Terms false d) = refl
agrees_all (MoreTerms false d) = refl
agrees_all (Term false d) = refl
agrees_all (Lambda false d) = refl
agrees_all (Fn false d) = refl
agrees_all (PiBinder false d) = refl
agrees_all (CaseType false d) = refl
agrees_all (Branches false d) = refl
agrees_all (MoreBranches false d) = refl
agrees_all (Branch false d) = refl
agrees_all (Arrow false d) = refl
agrees_all (Chain false d) = refl
agrees_all (App false d) = refl
agrees_all (Head false d) = refl
agrees_all (Atom false d) = refl
agrees_all (Code false d) = refl
agrees_all (Brackets false d) = refl
agrees_all (ConBrackets false d) = refl
agrees_all (Second false d) = refl
agrees_all (Operands false d n) = refl
agrees_all (Operand false d n) = refl
agrees_all (Args false d n) = refl
agrees_all (Arg false d n) = refl

-- what a number means: the right side that has it begins with the token; where there is none, none does
data Found (rs : List (List Symbol)) (k : Class) : Option ℕ → Type 0 where
  found : {j : ℕ} → Among (numbered rs (Some j)) rs → fronts begins (numbered rs (Some j)) k ≡ true → Found rs k (Some j)
  nowhere : ((r : List Symbol) → Among r rs → fronts begins r k ≡ false) → Found rs k None

no_rules : (k : Class) (r : List Symbol) → Among r [] → fronts begins r k ≡ false
no_rules k r i = elim i [ ]

none_of : {rs : List (List Symbol)} {k : Class} {r : List Symbol} → fronts begins r k ≡ false → ((s : List Symbol) → Among s rs → fronts begins s k ≡ false) → (s : List Symbol) → Among s (r ∷ rs) → fronts begins s k ≡ false
none_of e q s first = e
none_of e q s (other i) = q s i

found_next : (rs : List (List Symbol)) (k : Class) (r : List Symbol) (b : Bool) (o : Option ℕ) → fronts begins r k ≡ b → Found rs k o → Found (r ∷ rs) k (if_first b o)
found_next rs k r true o e f = found first e
found_next rs k r false (Some j) e (found i p) = found (other i) p
found_next rs k r false None e (nowhere q) = nowhere (none_of e q)

found_first : (rs : List (List Symbol)) (k : Class) → Found rs k (first_number rs k)
found_first [] k = nowhere (no_rules k)
found_first (r ∷ rs) k = found_next rs k r (fronts begins r k) (first_number rs k) refl (found_first rs k)

found_which : (m : Phrase) (k : Class) → Found (rules m) k (which m k)
found_which m k = subst (λ o. Found (rules m) k o) (same_number_eq (first_number (rules m) k) (which m k) (each (agrees m) (agrees_all m) k)) (found_first (rules m) k)

-- what the table says of a phrase at a token
pub data Told (m : Phrase) (k : Class) (r : List Symbol) : Bool → Type 0 where
  begins_so : Among r (rules m) → fronts begins r k ≡ true → Told m k r true
  never : r ≡ [] → ((s : List Symbol) → Among s (rules m) → fronts begins s k ≡ false) → Told m k r false

told_by : (m : Phrase) (k : Class) (o : Option ℕ) → Found (rules m) k o → Told m k (numbered (rules m) o) (is_chosen o)
told_by m k (Some j) (found i p) = begins_so i p
told_by m k None (nowhere q) = never refl q

pub told : (m : Phrase) (k : Class) → Told m k (side m k) (starts m k)
told m k = told_by m k (which m k) (found_which m k)
