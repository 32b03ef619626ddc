-- A text that symbols derive begins with a token of their first set, or they are empty and what follows derives it.
use Rattle.std.specs.Prelude.{Bool, true, false, not, ◌&&◌, List, [], ◌∷◌, ◌++◌, ◌≡◌, refl}
use mathlib.Core.Path.{sym, ◌∙◌, subst}
use Rattle.cf_grammar.proofs.Logic.{if_so, so, left, right, both, or_left, or_right, Either, one, two, which, none, clash}
use Rattle.cf_grammar.proofs.EachClass.{each, same_refl}
use Rattle.cf_grammar.proofs.Follow.{follows, nulls, every, no_symbols, followed, at_most_one, sound, firsts, single, parted, lasts, no_end, one_nil}
use Rattle.cf_grammar.proofs.Facts.{sound_all, shaped_all}
use Rattle.cf_grammar.proofs.First.{nullable}
use Rattle.cf_grammar.proofs.First.{begins, fronts}
use Rattle.cf_grammar.specs.Grammar.{rules, Takes, exact, any_name, Among, first, other, Derives, token, phrase}
use Rattle.cf_grammar.specs.declared.classes.Class.{Class}
use Rattle.cf_grammar.specs.declared.phrases.Phrase.{Phrase}
use Rattle.cf_grammar.specs.declared.phrases.Symbol.{Symbol}
use Rattle.cf_grammar.specs.declared.phrases.Symbol.TheVariants.{Is as is, AnyName as NAME, Phrase as a}

-- what holds of every right side holds of each
pub of_each : (f : List Symbol → Bool) {r : List Symbol} {rs : List (List Symbol)} → Among r rs → every f rs ≡ true → f r ≡ true
of_each f (first) e = left _ _ e
of_each f (other m) e = of_each f m (right _ _ e)

pub sound_at : (m : Phrase) (k : Class) → sound m k ≡ true
sound_at m k = each (sound m) (sound_all m) k

later : (m : Phrase) (k : Class) → (single m k && (parted m k && lasts m k)) ≡ true
later m k = right (firsts m k) (single m k && (parted m k && lasts m k)) (sound_at m k)

latest : (m : Phrase) (k : Class) → (parted m k && lasts m k) ≡ true
latest m k = right (single m k) (parted m k && lasts m k) (later m k)

-- the first sets are closed under the rules
pub first_closed : (m : Phrase) {r : List Symbol} → Among r (rules m) → (k : Class) → fronts begins r k ≡ true → begins m k ≡ true
first_closed m {r} i k e = so (fronts begins r k) (begins m k) (of_each (λ s. if_so (fronts begins s k) (begins m k)) i (left (firsts m k) (single m k && (parted m k && lasts m k)) (sound_at m k))) e

pub apart : (m : Phrase) (k : Class) → at_most_one (rules m) k false ≡ true
apart m k = left (single m k) (parted m k && lasts m k) (later m k)

pub no_clash : (m : Phrase) (k : Class) → nullable (rules m) ≡ true → begins m k ≡ true → follows m k ≡ true → ⊥
no_clash m k e b f = clash (sym (both (begins m k) (follows m k) b f) ∙ none (begins m k && follows m k) (so (nullable (rules m)) (not (begins m k && follows m k)) (left (parted m k) (lasts m k) (latest m k)) e))

pub follow_closed : (m : Phrase) {r : List Symbol} → Among r (rules m) → (k : Class) → followed m r k ≡ true
follow_closed m i k = of_each (λ r. followed m r k) i (right (parted m k) (lasts m k) (latest m k))

pub nil_of : (r : List Symbol) → no_symbols r ≡ true → r ≡ []
nil_of [] e = refl
nil_of (y ∷ ys) e = clash (sym e)

-- only the right side with no symbols may be empty
pub null_is_nil : (m : Phrase) {r : List Symbol} → Among r (rules m) → nulls r ≡ true → r ≡ []
null_is_nil m {r} i e = nil_of r (so (nulls r) (no_symbols r) (left _ _ (of_each (λ s. if_so (nulls s) (no_symbols s) && no_end s) i (left (every (λ s. if_so (nulls s) (no_symbols s) && no_end s) (rules m)) (one_nil (rules m)) (shaped_all m)))) e)

pub no_end_in : (m : Phrase) {r : List Symbol} → Among r (rules m) → no_end r ≡ true
no_end_in m {r} i = right _ _ (of_each (λ s. if_so (nulls s) (no_symbols s) && no_end s) i (left (every (λ s. if_so (nulls s) (no_symbols s) && no_end s) (rules m)) (one_nil (rules m)) (shaped_all m)))

pub nullable_of : (rs : List (List Symbol)) → Among [] rs → nullable rs ≡ true
nullable_of [] i = elim i [ ]
nullable_of ([] ∷ rs) i = refl
nullable_of ((y ∷ ys) ∷ rs) (other i) = nullable_of rs i

pub nil_among : (rs : List (List Symbol)) → nullable rs ≡ true → Among [] rs
nil_among [] e = clash (sym e)
nil_among ([] ∷ rs) e = first
nil_among ((y ∷ ys) ∷ rs) e = other (nil_among rs e)

pub null_closed : (m : Phrase) {r : List Symbol} → Among r (rules m) → nulls r ≡ true → nullable (rules m) ≡ true
null_closed m i e = nullable_of (rules m) (subst (λ s. Among s (rules m)) (null_is_nil m i e) i)

pub nil_once : (m : Phrase) → one_nil (rules m) ≡ true
nil_once m = right (every (λ s. if_so (nulls s) (no_symbols s) && no_end s) (rules m)) (one_nil (rules m)) (shaped_all m)

-- a list in two parts
pub data Joined : List Symbol → List Symbol → List Symbol → Type 0 where
  nothing : {ys : List Symbol} → Joined [] ys ys
  next : {y : Symbol} {v ys zs : List Symbol} → Joined v ys zs → Joined (y ∷ v) ys (y ∷ zs)

pub joined : (v ys : List Symbol) → Joined v ys (v ++ ys)
joined [] ys = nothing
joined (y ∷ v) ys = next (joined v ys)

pub before : (r : List Symbol) {v ys zs : List Symbol} → Joined v ys zs → Joined (r ++ v) ys (r ++ zs)
before [] j = j
before (y ∷ r) j = next (before r j)

-- how a text begins that v and then ys derive
pub data Begun (v ys : List Symbol) (k : Class) (ks : List Class) : Type 0 where
  here : fronts begins v k ≡ true → Begun v ys k ks
  past : nulls v ≡ true → Derives ys (k ∷ ks) → Begun v ys k ks

pub taken : {y : Symbol} {k : Class} → Takes y k → (v : List Symbol) → fronts begins (y ∷ v) k ≡ true
taken (exact {k = k}) v = same_refl k
taken any_name v = refl

-- the first set of two parts
abbrev InParts : (r v : List Symbol) (k : Class) → Type 0
InParts r v k = Either (fronts begins r k ≡ true) ((nulls r ≡ true) × (fronts begins v k ≡ true))

by_rest : (m : Phrase) (r v : List Symbol) (k : Class) → nullable (rules m) ≡ true → InParts r v k → InParts (a m ∷ r) v k
by_rest m r v k n (one p) = one (or_right (begins m k) (nullable (rules m) && fronts begins r k) (both _ _ n p))
by_rest m r v k n (two p) = two (both _ _ n p.0, p.1)

by_which : (m : Phrase) (r v : List Symbol) (k : Class) → Either (begins m k ≡ true) ((nullable (rules m) && fronts begins (r ++ v) k) ≡ true) → (fronts begins (r ++ v) k ≡ true → InParts r v k) → InParts (a m ∷ r) v k
by_which m r v k (one p) q = one (or_left (begins m k) (nullable (rules m) && fronts begins r k) p)
by_which m r v k (two p) q = by_rest m r v k (left (nullable (rules m)) (fronts begins (r ++ v) k) p) (q (right (nullable (rules m)) (fronts begins (r ++ v) k) p))

first_of : (r v : List Symbol) (k : Class) → fronts begins (r ++ v) k ≡ true → InParts r v k
first_of [] v k e = two (refl, e)
first_of (is j ∷ r) v k e = one e
first_of (NAME ∷ r) v k e = one e
first_of (a m ∷ r) v k e = by_which m r v k (which (begins m k) (nullable (rules m) && fronts begins (r ++ v) k) e) (first_of r v k)

nulls_of : (r v : List Symbol) → nulls (r ++ v) ≡ true → (nulls r ≡ true) × (nulls v ≡ true)
nulls_of [] v e = (refl, e)
nulls_of (is j ∷ r) v e = clash (sym e)
nulls_of (NAME ∷ r) v e = clash (sym e)
nulls_of (a m ∷ r) v e =
    let p = nulls_of r v (right (nullable (rules m)) (nulls (r ++ v)) e) in
    (both _ _ (left (nullable (rules m)) (nulls (r ++ v)) e) p.0, p.1)

closed : (m : Phrase) {r v ys : List Symbol} {k : Class} {ks : List Class} → Among r (rules m) → Begun (r ++ v) ys k ks → Begun (a m ∷ v) ys k ks
closed m {r} {v} {ys} {k} {ks} i (here e) = by_part (first_of r v k e)
  where
    by_part : Either (fronts begins r k ≡ true) ((nulls r ≡ true) × (fronts begins v k ≡ true)) → Begun (a m ∷ v) ys k ks
    by_part (one p) = here (or_left _ _ (first_closed m i k p))
    by_part (two p) = here (or_right (begins m k) _ (both _ _ (null_closed m i p.0) p.1))
closed m {r} {v} i (past e d) =
    let p = nulls_of r v e in
    past (both _ _ (null_closed m i p.0) p.1) d

pub begun : {v ys zs : List Symbol} {k : Class} {ks : List Class} → Derives zs (k ∷ ks) → Joined v ys zs → Begun v ys k ks
begun d nothing = past refl d
begun (token t d) (next {v = v} j) = here (taken t v)
begun (phrase {n = n} {r = r} i d) (next j) = closed n i (begun d (before r j))

-- a rule's part and what the stack derives after it
pub begins_with : (v ys : List Symbol) {k : Class} {ks : List Class} → Derives (v ++ ys) (k ∷ ks) → Begun v ys k ks
begins_with v ys d = begun d (joined v ys)
