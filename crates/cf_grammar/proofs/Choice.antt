-- The right side that is chosen is the only one that can derive what comes.
use Rattle.std.specs.Prelude.{Bool, true, false, not, ◌&&◌, ◌||◌, List, [], ◌∷◌, ◌++◌, ◌≡◌, refl}
use mathlib.Core.Path.{ap, sym, ◌∙◌, subst}
use Rattle.cf_grammar.proofs.Logic.{if_so, left, right, both, Either, one, two, test, none, clash}
use Rattle.cf_grammar.proofs.Follow.{follows, nulls, at_most_one, one_nil}
use Rattle.cf_grammar.proofs.Front.{first_closed, apart, no_clash, null_closed, null_is_nil, nullable_of, nil_once, Begun, here, past, begins_with}
use Rattle.cf_grammar.proofs.First.{nullable}
use Rattle.cf_grammar.proofs.First.{begins, fronts}
use Rattle.cf_grammar.specs.Grammar.{rules, Among, first, other, Derives, done, token, phrase}
use Rattle.cf_grammar.specs.declared.classes.Class.{Class}
use Rattle.cf_grammar.specs.declared.phrases.Phrase.{Phrase}
use Rattle.cf_grammar.specs.declared.phrases.Symbol.{Symbol}
use Rattle.cf_grammar.specs.declared.phrases.Symbol.TheVariants.{Is as is, AnyName as NAME, Phrase as a}

-- two places in a list are one
pub data SamePlace {rs : List (List Symbol)} : (r : List Symbol) → Among r rs → (s : List Symbol) → Among s rs → Type 0 where
  same_place : {r : List Symbol} {i : Among r rs} → SamePlace r i r i

pub further : {rs : List (List Symbol)} {r s : List Symbol} {i : Among r rs} {j : Among s rs} (q : List Symbol) → SamePlace r i s j → SamePlace {rs = q ∷ rs} r (other i) s (other j)
further q same_place = same_place

-- the tests at the head of a list, by what is found there
seen_once : (rs : List (List Symbol)) (k : Class) (b seen : Bool) → b ≡ true → (if_so b (not seen) && at_most_one rs k (b || seen)) ≡ true → (seen ≡ false) × (at_most_one rs k true ≡ true)
seen_once rs k true true p e = clash (sym e)
seen_once rs k true false p e = (refl, e)
seen_once rs k false seen p e = clash (sym p)

seen_later : (rs : List (List Symbol)) (k : Class) (b : Bool) → (if_so b (not true) && at_most_one rs k (b || true)) ≡ true → at_most_one rs k true ≡ true
seen_later rs k true e = clash (sym e)
seen_later rs k false e = e

not_yet : (rs : List (List Symbol)) (k : Class) (b : Bool) → b ≡ false → (if_so b (not false) && at_most_one rs k (b || false)) ≡ true → at_most_one rs k false ≡ true
not_yet rs k true p e = clash p
not_yet rs k false p e = e

no_more : {r : List Symbol} {rs : List (List Symbol)} (k : Class) → at_most_one rs k true ≡ true → Among r rs → fronts begins r k ≡ true → ⊥
no_more {r = r} k e (first {ys = rs}) p = clash (seen_once rs k (fronts begins r k) true p e).0
no_more k e (other {y = s} {ys = rs} i) p = no_more k (seen_later rs k (fronts begins s k) e) i p

not_both : {r s : List Symbol} {rs : List (List Symbol)} {b : Bool} (y : List Symbol) (i : Among r rs) (j : Among s rs) → Either (b ≡ true) (b ≡ false) → (b ≡ true → ⊥) → (b ≡ false → SamePlace r i s j) → SamePlace {rs = y ∷ rs} r (other i) s (other j)
not_both y i j (one t) stop go = absurd (stop t)
not_both y i j (two f) stop go = further y (go f)

-- of the right sides that begin with the token there is one
pub only : {r s : List Symbol} {rs : List (List Symbol)} (k : Class) → at_most_one rs k false ≡ true → (i : Among r rs) → fronts begins r k ≡ true → (j : Among s rs) → fronts begins s k ≡ true → SamePlace r i s j
only k e first p first q = same_place
only {r = r} k e (first {ys = rs}) p (other j) q = absurd (no_more k (seen_once rs k (fronts begins r k) false p e).1 j q)
only {s = s} k e (other i) p (first {ys = rs}) q = absurd (no_more k (seen_once rs k (fronts begins s k) false q e).1 i p)
only {r = r} {s = s} k e (other {y = y} {ys = rs} i) p (other j) q = not_both y i j (test (fronts begins y k)) (λ t. no_more k (seen_once rs k (fronts begins y k) false t e).1 j q) (λ f. only k (not_yet rs k (fronts begins y k) f e) i p j q)

-- what derives no token is empty
pub nulls_in : (r v : List Symbol) → nulls (r ++ v) ≡ true → nulls r ≡ true
nulls_in [] v e = refl
nulls_in (a m ∷ r) v e = both (nullable (rules m)) (nulls r) (left (nullable (rules m)) (nulls (r ++ v)) e) (nulls_in r v (right (nullable (rules m)) (nulls (r ++ v)) e))
nulls_in (NAME ∷ r) v e = clash (sym e)
nulls_in (is j ∷ r) v e = clash (sym e)

nulls_after : (r v : List Symbol) → nulls (r ++ v) ≡ true → nulls v ≡ true
nulls_after [] v e = e
nulls_after (a m ∷ r) v e = nulls_after r v (right (nullable (rules m)) (nulls (r ++ v)) e)
nulls_after (NAME ∷ r) v e = clash (sym e)
nulls_after (is j ∷ r) v e = clash (sym e)

pub empty : {zs : List Symbol} → Derives zs [] → nulls zs ≡ true
empty done = refl
empty (phrase {n = n} {r = r} {ys = ys} i d) = both (nullable (rules n)) (nulls ys) (null_closed n i (nulls_in r ys (empty d))) (nulls_after r ys (empty d))

-- two places of the right side with no symbols
no_nil : (rs : List (List Symbol)) → not (nullable rs) ≡ true → Among [] rs → ⊥
no_nil rs e i = clash (sym (nullable_of rs i) ∙ none (nullable rs) e)

nil_place : (rs : List (List Symbol)) → one_nil rs ≡ true → (i j : Among [] rs) → SamePlace [] i [] j
nil_place [] e i j = elim i [ ]
nil_place ([] ∷ rs) e first first = same_place
nil_place ([] ∷ rs) e first (other j) = absurd (no_nil rs e j)
nil_place ([] ∷ rs) e (other i) j = absurd (no_nil rs e i)
nil_place ((y ∷ ys) ∷ rs) e (other i) (other j) = further (y ∷ ys) (nil_place rs e i j)

pub at_nil : (m : Phrase) (r s : List Symbol) (i : Among r (rules m)) (j : Among s (rules m)) → r ≡ [] → s ≡ [] → SamePlace r i s j
at_nil m [] [] i j e f = nil_place (rules m) (nil_once m) i j
at_nil m (y ∷ r) s i j e f = clash' e
  where
    clash' : {A : Type 0} → y ∷ r ≡ [] → A
    clash' e = clash (ap (λ l. elim l [ [] ↦ false | y ∷ ys ↦ true ]) e)
at_nil m [] (y ∷ s) i j e f = clash' f
  where
    clash' : {A : Type 0} → y ∷ s ≡ [] → A
    clash' e = clash (ap (λ l. elim l [ [] ↦ false | y ∷ ys ↦ true ]) e)

-- a derivation that opens a phrase by a right side
abbrev pub ByRule : (m : Phrase) {r : List Symbol} (ys : List Symbol) (t : List Class) → Among r (rules m) → Derives (a m ∷ ys) t → Type 0
ByRule m {r} ys t i d = (e : Derives (r ++ ys) t) × (d ≡ phrase i e)

moved : {m : Phrase} {r s : List Symbol} {i : Among r (rules m)} {j : Among s (rules m)} {t : List Class} (ys : List Symbol) → SamePlace r i s j → (e : Derives (s ++ ys) t) → ByRule m ys t i (phrase j e)
moved ys same_place e = (e, refl)

-- the phrase's right side, where one begins with the token
pub right_side : (m : Phrase) {r : List Symbol} {k : Class} {ks t : List Class} (ys : List Symbol) (i : Among r (rules m)) → fronts begins r k ≡ true → (Derives ys (k ∷ ks) → follows m k ≡ true) → t ≡ k ∷ ks → (d : Derives (a m ∷ ys) t) → ByRule m ys t i d
right_side m ys i p f q (token u d) = elim u [ ]
right_side m {r} {k} {ks} {t} ys i p f q (phrase {r = s} j d) = by_front (begins_with s ys (subst (λ l. Derives (s ++ ys) l) q d))
  where
    by_front : Begun s ys k ks → ByRule m ys t i (phrase j d)
    by_front (here b) = moved ys (only k (apart m k) i p j b) d
    by_front (past n e) = absurd (no_clash m k (null_closed m j n) (first_closed m i k p) (f e))

-- the phrase is empty, where none does
pub empty_side : (m : Phrase) {k : Class} {ks t : List Class} (ys : List Symbol) (i : Among [] (rules m)) → ((r : List Symbol) → Among r (rules m) → fronts begins r k ≡ false) → t ≡ k ∷ ks → (d : Derives (a m ∷ ys) t) → ByRule m ys t i d
empty_side m ys i none' q (token u d) = elim u [ ]
empty_side m {k} {ks} {t} ys i none' q (phrase {r = s} j d) = by_front (begins_with s ys (subst (λ l. Derives (s ++ ys) l) q d))
  where
    by_front : Begun s ys k ks → ByRule m ys t i (phrase j d)
    by_front (here b) = clash (sym b ∙ none' s j)
    by_front (past n e) = moved ys (at_nil m [] s i j refl (null_is_nil m j n)) d

-- the phrase is not to be empty, and none does
pub no_side : (m : Phrase) {k : Class} {ks : List Class} (ys : List Symbol) → nullable (rules m) ≡ false → ((r : List Symbol) → Among r (rules m) → fronts begins r k ≡ false) → Derives (a m ∷ ys) (k ∷ ks) → ⊥
no_side m ys n none' (token u d) = elim u [ ]
no_side m {k} {ks} ys n none' (phrase {r = s} j d) = by_front (begins_with s ys d)
  where
    by_front : Begun s ys k ks → ⊥
    by_front (here b) = clash (sym b ∙ none' s j)
    by_front (past n' e) = clash (sym (null_closed m j n') ∙ n)
