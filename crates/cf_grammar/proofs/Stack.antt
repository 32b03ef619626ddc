-- What is known of a stack of symbols: what comes after a phrase of it may follow that phrase; the end stands last.
use Rattle.std.specs.Prelude.{true, ◌&&◌, List, [], ◌∷◌, ◌++◌, ◌≡◌, refl}
use mathlib.Core.Path.{sym, subst}
use Rattle.cf_grammar.proofs.Logic.{if_so, so, left, right, clash}
use Rattle.cf_grammar.proofs.Follow.{follows, nulls, followed, no_end}
use Rattle.cf_grammar.proofs.Front.{follow_closed, no_end_in, Begun, here, past, begins_with}
use Rattle.cf_grammar.specs.declared.classes.Class.TheVariants as class
use Rattle.cf_grammar.proofs.First.{begins, fronts, same}
use Rattle.cf_grammar.specs.Grammar.{rules, Takes, exact, any_name, Among, Derives, token}
use Rattle.cf_grammar.specs.Refusing.{IsText}
use Rattle.cf_grammar.specs.declared.classes.Class.{Class}
use Rattle.cf_grammar.specs.declared.phrases.Phrase.{Phrase}
use Rattle.cf_grammar.specs.declared.phrases.Phrase.TheVariants.{Program}
use Rattle.cf_grammar.specs.declared.phrases.Symbol.{Symbol}
use Rattle.cf_grammar.specs.declared.phrases.Symbol.TheVariants.{Is as is, AnyName as NAME, Phrase as a}

-- a text that is derived after a phrase of the stack begins with a token that may follow it
abbrev pub Sound : List Symbol → Type 0
Sound [] = Unit {0}
Sound (is j ∷ ys) = Sound ys
Sound (NAME ∷ ys) = Sound ys
Sound (a m ∷ ys) = ((k : Class) (ks : List Class) → Derives ys (k ∷ ks) → follows m k ≡ true) × Sound ys

follows_in : (m p : Phrase) (v ys : List Symbol) → ((k : Class) → followed m (a p ∷ v) k ≡ true) → Sound (a m ∷ ys) → (k : Class) (ks : List Class) → Begun v ys k ks → follows p k ≡ true
follows_in m p v ys f q k ks (here e) = so (fronts begins v k) (follows p k) (left _ (if_so (nulls v) (if_so (follows m k) (follows p k)) && followed m v k) (f k)) e
follows_in m p v ys f q k ks (past n d) =
    so (follows m k) (follows p k)
    (so (nulls v) (if_so (follows m k) (follows p k))
    (left _ (followed m v k) (right (if_so (fronts begins v k) (follows p k)) (if_so (nulls v) (if_so (follows m k) (follows p k)) && followed m v k) (f k)))
    n)
    (q.0 k ks d)

sound_in : (m : Phrase) (v ys : List Symbol) → ((k : Class) → followed m v k ≡ true) → Sound (a m ∷ ys) → Sound (v ++ ys)
sound_in m [] ys f q = q.1
sound_in m (is j ∷ v) ys f q = sound_in m v ys f q
sound_in m (NAME ∷ v) ys f q = sound_in m v ys f q
sound_in m (a p ∷ v) ys f q = (
  λ k ks d. follows_in m p v ys f q k ks (begins_with v ys d),
  sound_in m v ys (λ k. right (if_so (nulls v) (if_so (follows m k) (follows p k))) (followed m v k) (right (if_so (fronts begins v k) (follows p k)) (if_so (nulls v) (if_so (follows m k) (follows p k)) && followed m v k) (f k))) q,
)

-- opening a phrase keeps a stack sound
pub sound_opened : (m : Phrase) {r : List Symbol} (ys : List Symbol) → Among r (rules m) → Sound (a m ∷ ys) → Sound (r ++ ys)
sound_opened m {r} ys i q = sound_in m r ys (follow_closed m i) q

only_end : (k : Class) (ks : List Class) → Derives (is class.End ∷ []) (k ∷ ks) → same class.End k ≡ true
only_end k ks (token exact d) = refl

pub sound_start : Sound (a Program ∷ is class.End ∷ [])
sound_start = (only_end, tt)

-- the end stands last, and nowhere else
abbrev pub Ended : List Symbol → Type 0
Ended [] = ⊥
Ended (is class.End ∷ ys) = ys ≡ []
Ended (y ∷ ys) = Ended ys

pub ended_in : (r ys : List Symbol) → no_end r ≡ true → Ended ys → Ended (r ++ ys)
ended_in [] ys e q = q
ended_in (is class.End ∷ r) ys e q = clash (sym e)
ended_in (is (class.Name p) ∷ r) ys e q = ended_in r ys e q
ended_in (is (class.Word p) ∷ r) ys e q = ended_in r ys e q
ended_in (is (class.Mark p) ∷ r) ys e q = ended_in r ys e q
ended_in (is class.Whole ∷ r) ys e q = ended_in r ys e q
ended_in (is class.NatLit ∷ r) ys e q = ended_in r ys e q
ended_in (is class.Hole ∷ r) ys e q = ended_in r ys e q
ended_in (NAME ∷ r) ys e q = ended_in r ys e q
ended_in (a m ∷ r) ys e q = ended_in r ys e q

-- the stack and the tokens have their ends together
pub data Paired : List Symbol → List Class → Type 0 where
  open' : {ys : List Symbol} {ks : List Class} → Ended ys → IsText ks → Paired ys ks
  over : Paired [] []

at_end : {ys : List Symbol} {ks : List Class} → ys ≡ [] → ks ≡ [] → Paired ys ks
at_end {ys} {ks} e f = subst (λ zs. Paired zs ks) (sym e) (subst (λ ls. Paired [] ls) (sym f) over)

pub paired_token : {y : Symbol} {k : Class} (ys : List Symbol) (ks : List Class) → Takes y k → Paired (y ∷ ys) (k ∷ ks) → Paired ys ks
paired_token ys ks (exact {k = class.End}) (open' e t) = at_end e t
paired_token ys ks (exact {k = class.Name p}) (open' e t) = open' e t
paired_token ys ks (exact {k = class.Word p}) (open' e t) = open' e t
paired_token ys ks (exact {k = class.Mark p}) (open' e t) = open' e t
paired_token ys ks (exact {k = class.Whole}) (open' e t) = open' e t
paired_token ys ks (exact {k = class.NatLit}) (open' e t) = open' e t
paired_token ys ks (exact {k = class.Hole}) (open' e t) = open' e t
paired_token ys ks any_name (open' e t) = open' e t

pub paired_opened : (m : Phrase) {r : List Symbol} (ys : List Symbol) (ks : List Class) → Among r (rules m) → Paired (a m ∷ ys) ks → Paired (r ++ ys) ks
paired_opened m {r} ys ks i (open' e t) = open' (ended_in r ys (no_end_in m i) e) t
