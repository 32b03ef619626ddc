-- A text has at most one derivation.
use Rattle.std.specs.Prelude.{true, false, List, [], ◌∷◌, ◌++◌, ◌≡◌, refl}
use mathlib.Core.Path.{ap, ap₂, sym, ◌∙◌, subst, subst_refl}
use mathlib.Core.HLevel.{hedberg}
use Rattle.cf_grammar.proofs.EachClass.{same_refl, same_eq}
use Rattle.cf_grammar.proofs.Logic.{clash, Either, one, two, test}
use Rattle.cf_grammar.proofs.Front.{first_closed, apart, no_clash, null_is_nil, null_closed, Begun, here, past, begins_with}
use Rattle.cf_grammar.proofs.Choice.{SamePlace, same_place, only, empty, nulls_in, at_nil}
use Rattle.cf_grammar.proofs.Stack.{Sound, sound_opened, sound_start}
use Rattle.cf_grammar.proofs.First.{same}
use Rattle.cf_grammar.specs.Grammar.{rules, Takes, exact, any_name, Among, Derives, done, token, phrase}
use Rattle.cf_grammar.specs.Laws.{OneDerivation}
use Rattle.cf_grammar.specs.declared.classes.Class.{Class}
use Rattle.cf_grammar.specs.declared.phrases.Phrase.{Phrase}
use Rattle.cf_grammar.specs.declared.phrases.Symbol.{Symbol}
use Rattle.cf_grammar.specs.declared.phrases.Symbol.TheVariants.{Is as is, AnyName as NAME, Phrase as a}

decided : {j k : Class} → Either (same j k ≡ true) (same j k ≡ false) → Dec (j ≡ k)
decided {j} {k} (one e) = yes (same_eq j k e)
decided {j} {k} (two e) = no (λ p. clash (sym (same_refl k) ∙ sym (ap (λ i. same i k) p) ∙ e))

class_set : IsSet Class
class_set = hedberg (λ j k. decided (test (same j k)))

-- a token is taken in one way
abbrev told : {j k : Class} → Takes (is j) k → j ≡ k
told exact = refl

abbrev take : {j k : Class} → j ≡ k → Takes (is j) k
take {j} e = subst (λ c. Takes (is j) c) e exact

taken_back : {j k : Class} (t : Takes (is j) k) → take (told t) ≡ t
taken_back (exact {k = k}) = subst_refl (λ c. Takes (is k) c) exact

named : {k : Class} (t : Takes NAME k) → (u : Takes NAME k) → t ≡ u
named any_name any_name = refl

takes_once : (y : Symbol) {k : Class} (t u : Takes y k) → t ≡ u
takes_once (is j) {k} t u = sym (taken_back t) ∙ ap take (class_set j k (told t) (told u)) ∙ taken_back u
takes_once NAME t u = named t u
takes_once (a m) t u = elim t [ ]

-- the right side that a derivation takes is told by the text
same_side : (m : Phrase) {r s : List Symbol} (ys : List Symbol) (ks : List Class) → Sound (a m ∷ ys) → (i : Among r (rules m)) → Derives (r ++ ys) ks → (j : Among s (rules m)) → Derives (s ++ ys) ks → SamePlace r i s j
same_side m {r} {s} ys [] q i d j e = at_nil m r s i j (null_is_nil m i (nulls_in r ys (empty d))) (null_is_nil m j (nulls_in s ys (empty e)))
same_side m {r} {s} ys (k ∷ ks) q i d j e = by_fronts (begins_with r ys d) (begins_with s ys e)
  where
    by_fronts : Begun r ys k ks → Begun s ys k ks → SamePlace r i s j
    by_fronts (here p) (here p') = only k (apart m k) i p j p'
    by_fronts (here p) (past n' e') = absurd (no_clash m k (null_closed m j n') (first_closed m i k p) (q.0 k ks e'))
    by_fronts (past n e) (here p') = absurd (no_clash m k (null_closed m i n) (first_closed m j k p') (q.0 k ks e))
    by_fronts (past n e) (past n' e') = at_nil m r s i j (null_is_nil m i n) (null_is_nil m j n')

pub sound_after : {y : Symbol} {k : Class} (ys : List Symbol) → Takes y k → Sound (y ∷ ys) → Sound ys
sound_after ys exact q = q
sound_after ys any_name q = q

one_phrase : (m : Phrase) {r s : List Symbol} {ys : List Symbol} {ks : List Class} (i : Among r (rules m)) (d : Derives (r ++ ys) ks) (j : Among s (rules m)) (e : Derives (s ++ ys) ks) → SamePlace r i s j → ((e : Derives (r ++ ys) ks) → d ≡ e) → ◌≡◌ {A = Derives (a m ∷ ys) ks} (phrase i d) (phrase j e)
one_phrase m i d j e same_place q = ap (phrase i) (q e)

pub unique : {ys : List Symbol} {ks : List Class} → Sound ys → (d e : Derives ys ks) → d ≡ e
unique q done done = refl
unique q (token t d) (token u e) = ap₂ token (takes_once _ t u) (unique (sound_after _ t q) d e)
unique q (token t d) (phrase j e) = elim t [ ]
unique q (phrase i d) (token u e) = elim u [ ]
unique {ks = ks} q (phrase {n = m} {ys = ys} i d) (phrase j e) = one_phrase m i d j e (same_side m ys ks q i d j e) (unique (sound_opened m ys i q) d)

pub at_most_one_derivation : OneDerivation
at_most_one_derivation ks d e = unique sound_start d e
