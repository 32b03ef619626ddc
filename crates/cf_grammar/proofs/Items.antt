-- At one token an item past a limit is opened before a phrase that is nested too deep.
use Rattle.std.specs.Prelude.{ℕ, suc, ◌<◌, Bool, true, false, List, [], ◌∷◌, ◌++◌, Option, Some, None, nat_lt, if◌then◌else◌, ◌≡◌, refl}
use Rattle.std.proofs.Common.{arith}
use mathlib.Core.Path.{ap, sym, ◌∙◌, subst}
use Rattle.cf_base.specs.declared.limit.Limit.{Limit}
use Rattle.cf_grammar.proofs.Logic.{clash}
use Rattle.cf_grammar.proofs.Follow.{every}
use Rattle.cf_grammar.proofs.Front.{of_each}
use Rattle.cf_grammar.specs.Grammar.{rules, Derives, done, token, phrase}
use Rattle.cf_grammar.specs.Laws.{item, item_excess, NoneUpTo, ItemsFirst}
use Rattle.cf_grammar.specs.Refusing.{over, or_later, excess}
use Rattle.cf_grammar.specs.declared.classes.Class.{Class}
use Rattle.cf_grammar.specs.declared.endings.Fault.{Fault}
use Rattle.cf_grammar.specs.declared.endings.Fault.TheVariants.{Many, Nested}
use Rattle.cf_grammar.specs.declared.phrases.Phrase.{Phrase}
use Rattle.cf_grammar.specs.declared.phrases.Phrase.TheVariants.{Program, Decls, Decl, Params, Param, Ctors, MoreCtors, Ctor, Fields, MoreFields, Field, Terms, MoreTerms, Term, Lambda, Fn, PiBinder, CaseType, Branches, MoreBranches, Branch, Arrow, Chain, App, Head, Atom, Code, Brackets, ConBrackets, Second, Operands, Operand, Args, Arg, Binder, Binders}
use Rattle.cf_grammar.specs.declared.phrases.Symbol.{Symbol}
use Rattle.cf_grammar.specs.declared.phrases.Symbol.TheVariants.{Is as is, AnyName as NAME, Phrase as a}

-- the phrases that a term's first token may open
abbrev spine : Phrase → Bool
spine (Term x d) = true
spine (Chain x d) = true
spine (App x d) = true
spine (Head x d) = true
spine (Atom x d) = true
spine (Code x d) = true
spine _ = false

-- only such a phrase, or a token, stands at the top
abbrev on_spine : List Symbol → Bool
on_spine [] = false
on_spine (is j ∷ ys) = true
on_spine (NAME ∷ ys) = true
on_spine (a m ∷ ys) = spine m

-- a phrase of the spine goes on within it
goes_on : (m : Phrase) → spine m ≡ true → every on_spine (rules m) ≡ true
goes_on Program e = clash (sym e)
goes_on Binder e = clash (sym e)
goes_on Binders e = clash (sym e)
goes_on (Params n) e = clash (sym e)
goes_on (Param n) e = clash (sym e)
goes_on (Decls true n) e = clash (sym e)
goes_on (Decl true n) e = clash (sym e)
goes_on (Ctors true n) e = clash (sym e)
goes_on (MoreCtors true n) e = clash (sym e)
goes_on (Ctor true n) e = clash (sym e)
goes_on (Fields true n) e = clash (sym e)
goes_on (MoreFields true n) e = clash (sym e)
goes_on (Field true n) e = clash (sym e)
goes_on (Terms true d) e = clash (sym e)
goes_on (MoreTerms true d) e = clash (sym e)
goes_on (Term true d) e = refl
goes_on (Lambda true d) e = clash (sym e)
goes_on (Fn true d) e = clash (sym e)
goes_on (PiBinder true d) e = clash (sym e)
goes_on (CaseType true d) e = clash (sym e)
goes_on (Branches true d) e = clash (sym e)
goes_on (MoreBranches true d) e = clash (sym e)
goes_on (Branch true d) e = clash (sym e)
goes_on (Arrow true d) e = clash (sym e)
goes_on (Chain true d) e = refl
goes_on (App true d) e = refl
goes_on (Head true d) e = refl
goes_on (Atom true d) e = refl
goes_on (Code true d) e = refl
goes_on (Brackets true d) e = clash (sym e)
goes_on (ConBrackets true d) e = clash (sym e)
goes_on (Second true d) e = clash (sym e)
goes_on (Operands true d n) e = clash (sym e)
goes_on (Operand true d n) e = clash (sym e)
goes_on (Args true d n) e = clash (sym e)
goes_on (Arg true d n) e = clash (sym e)
goes_on (Decls false n) e = clash (sym e)
goes_on (Decl false n) e = clash (sym e)
goes_on (Ctors false n) e = clash (sym e)
goes_on (MoreCtors false n) e = clash (sym e)
goes_on (Ctor false n) e = clash (sym e)
goes_on (Fields false n) e = clash (sym e)
goes_on (MoreFields false n) e = clash (sym e)
goes_on (Field false n) e = clash (sym e)
goes_on (Terms false d) e = clash (sym e)
goes_on (MoreTerms false d) e = clash (sym e)
goes_on (Term false d) e = refl
goes_on (Lambda false d) e = clash (sym e)
goes_on (Fn false d) e = clash (sym e)
goes_on (PiBinder false d) e = clash (sym e)
goes_on (CaseType false d) e = clash (sym e)
goes_on (Branches false d) e = clash (sym e)
goes_on (MoreBranches false d) e = clash (sym e)
goes_on (Branch false d) e = clash (sym e)
goes_on (Arrow false d) e = clash (sym e)
goes_on (Chain false d) e = refl
goes_on (App false d) e = refl
goes_on (Head false d) e = refl
goes_on (Atom false d) e = refl
goes_on (Code false d) e = refl
goes_on (Brackets false d) e = clash (sym e)
goes_on (ConBrackets false d) e = clash (sym e)
goes_on (Second false d) e = clash (sym e)
goes_on (Operands false d n) e = clash (sym e)
goes_on (Operand false d n) e = clash (sym e)
goes_on (Args false d n) e = clash (sym e)
goes_on (Arg false d n) e = clash (sym e)

-- a phrase of the spine is no item
no_item : (b : Bool) → item (if b then None else Some Nested) ≡ None
no_item true = refl
no_item false = refl

spine_free : (m : Phrase) → spine m ≡ true → item (over m) ≡ None
spine_free Program e = clash (sym e)
spine_free (Decls x n) e = clash (sym e)
spine_free (Decl x n) e = clash (sym e)
spine_free (Params n) e = clash (sym e)
spine_free (Param n) e = clash (sym e)
spine_free (Ctors x n) e = clash (sym e)
spine_free (MoreCtors x n) e = clash (sym e)
spine_free (Ctor x n) e = clash (sym e)
spine_free (Fields x n) e = clash (sym e)
spine_free (MoreFields x n) e = clash (sym e)
spine_free (Field x n) e = clash (sym e)
spine_free (Terms x d) e = clash (sym e)
spine_free (MoreTerms x d) e = clash (sym e)
spine_free (Term x d) e = no_item (nat_lt d 201)
spine_free (Lambda x d) e = clash (sym e)
spine_free (Fn x d) e = clash (sym e)
spine_free (PiBinder x d) e = clash (sym e)
spine_free (CaseType x d) e = clash (sym e)
spine_free (Branches x d) e = clash (sym e)
spine_free (MoreBranches x d) e = clash (sym e)
spine_free (Branch x d) e = clash (sym e)
spine_free (Arrow x d) e = clash (sym e)
spine_free (Chain x d) e = refl
spine_free (App x d) e = refl
spine_free (Head x d) e = refl
spine_free (Atom x d) e = refl
spine_free (Brackets x d) e = clash (sym e)
spine_free (ConBrackets x d) e = clash (sym e)
spine_free (Second x d) e = clash (sym e)
spine_free (Operands x d n) e = clash (sym e)
spine_free (Operand x d n) e = clash (sym e)
spine_free (Args x d n) e = clash (sym e)
spine_free (Arg x d n) e = clash (sym e)
spine_free (Code x d) e = no_item (nat_lt d 201)
spine_free Binder e = clash (sym e)
spine_free Binders e = clash (sym e)

-- only a phrase of the spine is nested too deep
abbrev deep : Option Fault → Bool
deep (Some Nested) = true
deep _ = false

never_deep : (b : Bool) (l : Limit) → deep (if b then None else Some (Many l)) ≡ false
never_deep true l = refl
never_deep false l = refl

deep_spine : (m : Phrase) → deep (over m) ≡ true → spine m ≡ true
deep_spine Program e = clash (sym e)
deep_spine (Decls x n) e = clash (sym e)
deep_spine (Decl x n) e = clash (sym e ∙ never_deep (nat_lt n 4096) _)
deep_spine (Params n) e = clash (sym e)
deep_spine (Param n) e = clash (sym e ∙ never_deep (nat_lt n 16) _)
deep_spine (Ctors x n) e = clash (sym e)
deep_spine (MoreCtors x n) e = clash (sym e)
deep_spine (Ctor x n) e = clash (sym e ∙ never_deep (nat_lt n 256) _)
deep_spine (Fields x n) e = clash (sym e)
deep_spine (MoreFields x n) e = clash (sym e)
deep_spine (Field x n) e = clash (sym e ∙ never_deep (nat_lt n 16) _)
deep_spine (Terms x d) e = clash (sym e)
deep_spine (MoreTerms x d) e = clash (sym e)
deep_spine (Term x d) e = refl
deep_spine (Lambda x d) e = clash (sym e)
deep_spine (Fn x d) e = clash (sym e)
deep_spine (PiBinder x d) e = clash (sym e)
deep_spine (CaseType x d) e = clash (sym e)
deep_spine (Branches x d) e = clash (sym e)
deep_spine (MoreBranches x d) e = clash (sym e)
deep_spine (Branch x d) e = clash (sym e)
deep_spine (Arrow x d) e = clash (sym e)
deep_spine (Chain x d) e = refl
deep_spine (App x d) e = refl
deep_spine (Head x d) e = refl
deep_spine (Atom x d) e = refl
deep_spine (Brackets x d) e = clash (sym e)
deep_spine (ConBrackets x d) e = clash (sym e)
deep_spine (Second x d) e = clash (sym e)
deep_spine (Operands x d n) e = clash (sym e)
deep_spine (Operand x d n) e = clash (sym e ∙ never_deep (nat_lt n 16) _)
deep_spine (Args x d n) e = clash (sym e)
deep_spine (Arg x d n) e = clash (sym e ∙ never_deep (nat_lt n 16) _)
deep_spine (Code x d) e = refl
deep_spine Binder e = clash (sym e)
deep_spine Binders e = clash (sym e)

item_not_before : {ys : List Symbol} {t : List Class} (d : Derives ys t) (j i : ℕ) → j < i → NoneUpTo j (item_excess d i)
item_not_before done j i p = tt
item_not_before (token u d) j i p = item_not_before d j (suc i) (omega arith)
item_not_before (phrase {n = n} c d) j i p = by_limit (item (over n)) (item_excess d i) (item_not_before d j i p)
  where
    by_limit : (o : Option Fault) (later : Option (ℕ × Fault)) → NoneUpTo j later → NoneUpTo j (or_later o i later)
    by_limit (Some f) later q = p
    by_limit None later q = q

still_on : (r ys : List Symbol) → on_spine r ≡ true → on_spine (r ++ ys) ≡ true
still_on [] ys e = clash (sym e)
still_on (is j ∷ r) ys e = e
still_on (NAME ∷ r) ys e = e
still_on (a m ∷ r) ys e = e

no_item_there : {ys : List Symbol} {t : List Class} (d : Derives ys t) (i : ℕ) → on_spine ys ≡ true → NoneUpTo i (item_excess d i)
no_item_there done i e = tt
no_item_there (token u d) i e = item_not_before d i (suc i) (omega arith)
no_item_there (phrase {n = n} {r = r} {ys = ys} c d) i e = subst (λ o. NoneUpTo i (or_later o i (item_excess d i))) (sym (spine_free n e)) (no_item_there d i (still_on r ys (of_each on_spine c (goes_on n e))))

abbrev place_of : ℕ → Option (ℕ × Fault) → ℕ
place_of i None = i
place_of i (Some o) = o.0

abbrev fault_of : Option (ℕ × Fault) → Option Fault
fault_of None = None
fault_of (Some o) = Some o.1

-- by the limit of the phrase at the top
at_top : (n : Phrase) (i j : ℕ) (later items : Option (ℕ × Fault)) (o : Option Fault) → over n ≡ o → or_later o i later ≡ Some (j, Nested) → (spine n ≡ true → NoneUpTo i (or_later (item (over n)) i items)) → (later ≡ Some (j, Nested) → NoneUpTo j items) → NoneUpTo j (or_later (item (over n)) i items)
at_top n i j later items (Some f) v e q r = subst (λ k. NoneUpTo k (or_later (item (over n)) i items)) (ap (place_of i) e) (q (deep_spine n (ap deep (v ∙ ap fault_of e))))
at_top n i j later items None v e q r = subst (λ o. NoneUpTo j (or_later (item o) i items)) (sym v) (r e)

items_first : {ys : List Symbol} {t : List Class} (d : Derives ys t) (i j : ℕ) → excess d i ≡ Some (j, Nested) → NoneUpTo j (item_excess d i)
items_first done i j e = clash (ap (λ o. elim o [ None ↦ true | Some x ↦ false ]) e)
items_first (token u d) i j e = items_first d (suc i) j e
items_first (phrase {n = n} c d) i j e = at_top n i j (excess d i) (item_excess d i) (over n) refl e (λ s. no_item_there (phrase {n = n} c d) i s) (λ q. items_first d i j q)

pub items_are_first : ItemsFirst
items_are_first ks d i e = items_first d 0 i e
