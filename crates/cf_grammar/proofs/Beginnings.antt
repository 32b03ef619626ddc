-- A token of the first set does begin some text that the symbols derive.
use Rattle.std.specs.Prelude.{ℕ, zero, suc, Bool, true, ◌&&◌, List, [], ◌∷◌, ◌++◌, ◌≡◌}
use mathlib.Core.Path.{sym, subst}
use Rattle.cf_grammar.proofs.Logic.{left, right, or_left, or_right, Either, one, two, which, clash, both}
use Rattle.cf_grammar.proofs.EachClass.{same_eq}
use Rattle.cf_grammar.proofs.Front.{nil_among}
use Rattle.cf_grammar.proofs.Life.{lives}
use Rattle.cf_grammar.specs.declared.classes.Class.TheVariants as class
use Rattle.cf_grammar.specs.Laws.{Begins}
use Rattle.cf_grammar.proofs.First.{nullable}
use Rattle.cf_grammar.proofs.First.{begins, opens, fronts, same, is_name, any_of}
use Rattle.cf_grammar.specs.Grammar.{rules, Takes, exact, any_name, Among, first, other, token, phrase}
use Rattle.cf_grammar.specs.declared.classes.Class.{Class}
use Rattle.cf_grammar.specs.declared.phrases.Phrase.{Phrase}
use Rattle.cf_grammar.specs.declared.phrases.Symbol.{Symbol}
use Rattle.cf_grammar.specs.declared.phrases.Symbol.TheVariants.{Is as is, AnyName as NAME, Phrase as a}

pub takes_same : (j k : Class) → same j k ≡ true → Takes (is j) k
takes_same j k e = subst (λ i. Takes (is j) i) (same_eq j k e) exact

pub takes_name : (k : Class) → is_name k ≡ true → Takes NAME k
takes_name (class.Name p) e = any_name
takes_name _ e = clash (sym e)

-- one of the right sides meets the test
pub some_of : (f : List Symbol → Bool) (rs : List (List Symbol)) → any_of f rs ≡ true → (r : List Symbol) × Among r rs × (f r ≡ true)
some_of f [] e = clash (sym e)
some_of f (r ∷ rs) e = by_which (which (f r) (any_of f rs) e) (some_of f rs)
  where
    by_which : Either (f r ≡ true) (any_of f rs ≡ true) → (any_of f rs ≡ true → (s : List Symbol) × Among s rs × (f s ≡ true)) → (s : List Symbol) × Among s (r ∷ rs) × (f s ≡ true)
    by_which (one p) q = (r, first, p)
    by_which (two p) q = let s = q p in (s.0, other s.1, s.2)

more_fronts : (f : Phrase → Class → Bool) (r ys : List Symbol) (k : Class) → fronts f r k ≡ true → fronts f (r ++ ys) k ≡ true
more_fronts f [] ys k e = clash (sym e)
more_fronts f (is j ∷ r) ys k e = e
more_fronts f (NAME ∷ r) ys k e = e
more_fronts f (a m ∷ r) ys k e = by_which (which (f m k) (nullable (rules m) && fronts f r k) e) (more_fronts f r ys k)
  where
    by_which : Either (f m k ≡ true) ((nullable (rules m) && fronts f r k) ≡ true) → (fronts f r k ≡ true → fronts f (r ++ ys) k ≡ true) → fronts f (a m ∷ (r ++ ys)) k ≡ true
    by_which (one p) q = or_left (f m k) (nullable (rules m) && fronts f (r ++ ys) k) p
    by_which (two p) q = or_right (f m k) (nullable (rules m) && fronts f (r ++ ys) k) (both (nullable (rules m)) (fronts f (r ++ ys) k) (left _ _ p) (q (right (nullable (rules m)) (fronts f r k) p)))

at_phrase : (f : Phrase → Class → Bool) (m : Phrase) (ys : List Symbol) (k : Class) → Either (f m k ≡ true) ((nullable (rules m) && fronts f ys k) ≡ true) → (f m k ≡ true → Begins (a m ∷ ys) k) → (fronts f ys k ≡ true → Begins ys k) → Begins (a m ∷ ys) k
at_phrase f m ys k (one p) q e = q p
at_phrase f m ys k (two p) q e =
    let d = e (right (nullable (rules m)) (fronts f ys k) p) in
    (d.0, phrase (nil_among (rules m) (left (nullable (rules m)) (fronts f ys k) p)) d.1)

within : (f : Phrase → Class → Bool) (ys : List Symbol) (k : Class) → ((m : Phrase) (zs : List Symbol) → f m k ≡ true → Begins (a m ∷ zs) k) → fronts f ys k ≡ true → Begins ys k
within f [] k q e = clash (sym e)
within f (is j ∷ ys) k q e = let l = lives ys in (l.0, token (takes_same j k e) l.1)
within f (NAME ∷ ys) k q e = let l = lives ys in (l.0, token (takes_name k e) l.1)
within f (a m ∷ ys) k q e = at_phrase f m ys k (which (f m k) (nullable (rules m) && fronts f ys k) e) (q m ys) (within f ys k q)

opened : (n : ℕ) (k : Class) (m : Phrase) (zs : List Symbol) → opens n m k ≡ true → Begins (a m ∷ zs) k
opened zero k m zs e = clash (sym e)
opened (suc n) k m zs e =
    let r = some_of (λ r. fronts (opens n) r k) (rules m) e in
    let d = within (opens n) (r.0 ++ zs) k (opened n k) (more_fronts (opens n) r.0 zs k r.2) in
    (d.0, phrase r.1 d.1)

pub leads : (ys : List Symbol) (k : Class) → fronts begins ys k ≡ true → Begins ys k
leads ys k e = within begins ys k (opened 8 k) e

pub leads_more : (r ys : List Symbol) (k : Class) → fronts begins r k ≡ true → Begins (r ++ ys) k
leads_more r ys k e = leads (r ++ ys) k (more_fronts begins r ys k e)
