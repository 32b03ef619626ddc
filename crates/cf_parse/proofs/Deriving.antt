-- From a derivation within the limits: its tree of productions, what it means, and what stands at the tokens.
use Rattle.std.proofs.Common.{◌≡◌, ◌∙◌, refl, ap, sym, subst, ℕ, zero, suc, Bool, true, false, ◌&&◌, List, [], ◌∷◌, ◌++◌, Option, Some, None, slice_get}
use Rattle.cf_grammar.proofs.First.{begins, fronts}
use Rattle.cf_grammar.proofs.Prediction.{Told, begins_so, never, told}
use Rattle.cf_grammar.specs.Choosing.{is_chosen, numbered, side, which}
use Rattle.cf_grammar.specs.Grammar.{rules, Takes, Among, Derives, Leads, start, exact, any_name, first, other}
use Rattle.cf_grammar.specs.Grammar as grammar
use Rattle.cf_grammar.specs.Refusing.{excess, or_later, over}
use Rattle.cf_grammar.specs.declared.classes.Class.{Class}
use Rattle.cf_grammar.specs.declared.endings.Fault.{Fault}
use Rattle.cf_grammar.specs.declared.phrases.Phrase.{Phrase}
use Rattle.cf_grammar.specs.declared.phrases.Symbol.{Symbol}
use Rattle.cf_grammar.specs.declared.phrases.Symbol.TheVariants.{Phrase as a}
use Rattle.cf_grammar.proofs.Reached.{one_choice}
use Rattle.cf_syntax.proofs.Cases.{none_some, clash}
use Rattle.cf_syntax.proofs.Closing.{closed, closed_behind, closed_opened, leads_phrase, leads_token, never_ends, right_of, some, some_opened}
use Rattle.cf_syntax.specs.Checks.{AllInRange, one}
use Rattle.cf_parse.specs.Derivation.{Cst, leaf, branch, Csts, nil, cons, Parses, ParsesAll}
use Rattle.cf_parse.specs.Derivation as derivation
use Rattle.cf_parse.specs.Meaning.{value, values}
use Rattle.cf_syntax.specs.Numbers.{in_range}
use Rattle.cf_parse.specs.Reads.{within, within_all, within_limit}
use Rattle.cf_parse.specs.Standing.{Stands, StandAll, nullable}
use Rattle.cf_parse.specs.Standing as standing
use Rattle.cf_syntax.specs.Tokens.{Token, classes}

-- the table's number is that of a right side that is there
numbered_get : (rs : List (List Symbol)) (w : ℕ) (y : Symbol) (r : List Symbol) → numbered rs (Some w) ≡ y ∷ r → slice_get rs w ≡ Some (y ∷ r)
numbered_get [] w y r e = absurd (subst is_cons (sym e) tt)
  where
    is_cons : List Symbol → Type 0
    is_cons [] = ⊥
    is_cons (z ∷ zs) = Unit {0}
numbered_get (s ∷ rs) zero y r e = ap Some e
numbered_get (s ∷ rs) (suc w) y r e = numbered_get rs w y r e

begun : {n : Phrase} {k : Class} {r : List Symbol} {b : Bool} → Told n k r b → b ≡ true → fronts begins r k ≡ true
begun (begins_so i p) e = p
begun (never q f) e = clash (sym e)

pub get_side : (n : Phrase) (k : Class) (w : ℕ) → which n k ≡ Some w → slice_get (rules n) w ≡ Some (side n k)
get_side n k w e = by_cases (side n k) (ap (λ o. numbered (rules n) o) (sym e)) (begun (told n k) (ap is_chosen e))
  where
    by_cases : (r : List Symbol) → numbered (rules n) (Some w) ≡ r → fronts begins r k ≡ true → slice_get (rules n) w ≡ Some r
    by_cases [] q p = clash (sym p)
    by_cases (y ∷ r) q p = numbered_get (rules n) w y r q

-- a right side that a token begins is not empty
pub filled : (n : Phrase) (k : Class) (w : ℕ) → which n k ≡ Some w → (y : Symbol) × ((r : List Symbol) × (side n k ≡ y ∷ r))
filled n k w e = by_cases (side n k) refl (begun (told n k) (ap is_chosen e))
  where
    by_cases : (r : List Symbol) → side n k ≡ r → fronts begins r k ≡ true → (y : Symbol) × ((r : List Symbol) × (side n k ≡ y ∷ r))
    by_cases [] q p = clash (sym p)
    by_cases (y ∷ r) q p = (y, (r, q))

among_nullable : (rs : List (List Symbol)) → Among [] rs → nullable rs ≡ true
among_nullable _ first = refl
among_nullable _ (other {y = []} i) = refl
among_nullable _ (other {y = z ∷ zs} {ys = ys} i) = among_nullable ys i

none_both : (o : Option Fault) (i : ℕ) (later : Option (ℕ × Fault)) → or_later o i later ≡ None → (o ≡ None) × (later ≡ None)
none_both None i later e = (refl, e)
none_both (Some f) i later e = none_some (sym e)

and_both : (x y : Bool) → x ≡ true → y ≡ true → (x && y) ≡ true
and_both true y p q = q
and_both false y p q = clash (sym p)

mutual
  -- a tree within the limits, each right side the one that the table gives
  pub data Grows : Symbol → Cst → List Token → List Token → Type 0 where
    token : {y : Symbol} {k : Token} {ks : List Token} → Takes y k.class → in_range k.class k.text ≡ true → Grows y (leaf k) (k ∷ ks) ks
    empty : {n : Phrase} {w : ℕ} {k : Token} {ks : List Token} → over n ≡ None → which n k.class ≡ None → slice_get (rules n) w ≡ Some [] → nullable (rules n) ≡ true → Grows (a n) (branch n w k.at nil) (k ∷ ks) (k ∷ ks)
    phrase : {n : Phrase} {w : ℕ} {r : List Symbol} {cs : Csts} {k : Token} {ks ls : List Token} → over n ≡ None → which n k.class ≡ Some w → slice_get (rules n) w ≡ Some r → GrowAll r cs (k ∷ ks) ls → Grows (a n) (branch n w k.at cs) (k ∷ ks) ls

  pub data GrowAll : List Symbol → Csts → List Token → List Token → Type 0 where
    none : {ks : List Token} → GrowAll [] nil ks ks
    both : {y : Symbol} {ys : List Symbol} {c : Cst} {cs : Csts} {ks ls m : List Token} → Grows y c ks ls → GrowAll ys cs ls m → GrowAll (y ∷ ys) (cons c cs) ks m

mutual
  pub parses : {y : Symbol} {c : Cst} {ks ls : List Token} → Grows y c ks ls → Parses y c ks ls
  parses (token t q) = derivation.token t
  parses (empty o e q z) = derivation.phrase q derivation.none
  parses (phrase o e q g) = derivation.phrase q (parses_all g)

  parses_all : {ys : List Symbol} {cs : Csts} {ks ls : List Token} → GrowAll ys cs ks ls → ParsesAll ys cs ks ls
  parses_all none = derivation.none
  parses_all (both g h) = derivation.both (parses g) (parses_all h)

mutual
  pub stands : {y : Symbol} {c : Cst} {ks ls : List Token} (b : Bool) → Grows y c ks ls → Stands b y ks (value b c) ls
  stands b (token t q) = standing.token t q
  stands b (empty o e q z) = standing.empty e z
  stands b (phrase o e q g) = standing.phrase e q (stand_all b g)

  stand_all : {ys : List Symbol} {cs : Csts} {ks ls : List Token} (b : Bool) → GrowAll ys cs ks ls → StandAll b ys ks (values b cs) ls
  stand_all b none = standing.none
  stand_all b (both g h) = standing.both (stands b g) (stand_all b h)

no_fault : {o : Option Fault} → o ≡ None → within_limit o ≡ true
no_fault e = ap within_limit e

mutual
  pub limits : {y : Symbol} {c : Cst} {ks ls : List Token} → Grows y c ks ls → within c ≡ true
  limits (token t q) = q
  limits (empty {n = n} o e q z) = and_both (within_limit (over n)) true (no_fault o) refl
  limits (phrase {n = n} {cs = cs} o e q g) = and_both (within_limit (over n)) (within_all cs) (no_fault o) (limits_all g)

  limits_all : {ys : List Symbol} {cs : Csts} {ks ls : List Token} → GrowAll ys cs ks ls → within_all cs ≡ true
  limits_all none = refl
  limits_all (both {c = c} {cs = cs} g h) = and_both (within c) (within_all cs) (limits g) (limits_all h)

-- the trees of the first symbols, and those of the others
record Split (r ys : List Symbol) (ks ls : List Token) : Type 0 where
  pub front : Csts
  pub back : Csts
  pub mid : List Token
  pub first : GrowAll r front ks mid
  pub second : GrowAll ys back mid ls

split : (r : List Symbol) {ys : List Symbol} {cs : Csts} {ks ls : List Token} → GrowAll (r ++ ys) cs ks ls → Split r ys ks ls
split [] {cs = cs} {ks = ks} g = record { front = nil; back = cs; mid = ks; first = none; second = g }
split (y ∷ r) (both {c = c} g h) =
    let o = split r h in
    record { front = cons c o.front; back = o.back; mid = o.mid; first = both g o.first; second = o.second }

-- trees for all symbols of a stack
pub record Grown (ys : List Symbol) (ks : List Token) : Type 0 where
  pub cs : Csts
  pub grow : GrowAll ys cs ks []

no_cons : {A : Type 0} {k : Class} {l : List Class} → [] ≡ k ∷ l → A
no_cons e = absurd (subst is_nil e tt)
  where
    is_nil : List Class → Type 0
    is_nil [] = Unit {0}
    is_nil (x ∷ xs) = ⊥

abbrev head_or : Class → List Class → Class
head_or k [] = k
head_or k (j ∷ l) = j

abbrev tail_of : List Class → List Class
tail_of [] = []
tail_of (j ∷ l) = l

abbrev to_none : Option ℕ → Type 0
to_none None = Unit {0}
to_none (Some n) = ⊥

-- a phrase that is opened by the right side that the table gives
opened : (n : Phrase) (ys r : List Symbol) (k : Token) (ks : List Token) (w : ℕ) → over n ≡ None → r ≡ side n k.class → slice_get (rules n) w ≡ Some r → Among r (rules n) → Grown (r ++ ys) (k ∷ ks) → Grown (a n ∷ ys) (k ∷ ks)
opened n ys r k ks w o e q i g = by_cases (which n k.class) refl
  where
    by_cases : (c : Option ℕ) → which n k.class ≡ c → Grown (a n ∷ ys) (k ∷ ks)
    by_cases None h =
        let z : r ≡ [] = e ∙ ap (λ c. numbered (rules n) c) h in
        let g' = subst (λ x. Grown (x ++ ys) (k ∷ ks)) z g in
        record { cs = cons (branch n w k.at nil) g'.cs; grow = both (empty o h (q ∙ ap Some z) (among_nullable (rules n) (subst (λ x. Among x (rules n)) z i))) g'.grow }
    by_cases (Some v) h =
        let s = split r g.grow in
        record { cs = cons (branch n v k.at s.front) s.back; grow = both (phrase o h (get_side n k.class v h ∙ ap Some (sym e)) s.first) s.second }

-- the number of a right side
abbrev pub index : {r : List Symbol} {rs : List (List Symbol)} → Among r rs → ℕ
index first = 0
index (other i) = suc (index i)

pub index_get : {r : List Symbol} {rs : List (List Symbol)} (i : Among r rs) → slice_get rs (index i) ≡ Some r
index_get first = refl
index_get (other i) = index_get i

told_side : {before : List Class} {n : Phrase} {ys : List Symbol} (k : Class) (ks l : List Class) → k ∷ ks ≡ l → (d : Derives (a n ∷ ys) l) → Leads start before (a n ∷ ys) → right_of d ≡ side n k
told_side {before = before} {n = n} {ys = ys} k ks l e d g =
    subst (λ m. (d : Derives (a n ∷ ys) m) → right_of d ≡ side n k) e (λ d. ap right_of (one_choice before n k ys ks g d).opened) d

pub grow : {before : List Class} {ys : List Symbol} {l : List Class} (ks : List Token) (i : ℕ) → Leads start before ys → closed ys ≡ true → (d : Derives ys l) → excess d i ≡ None → classes ks ≡ l → AllInRange ks → Grown ys ks
grow [] i g c grammar.done x e n = record { cs = nil; grow = none }
grow (k ∷ ks) i g c grammar.done x e n = no_cons (sym e)
grow [] i g c (grammar.token t d) x e n = no_cons e
grow (k ∷ ks) i g c (grammar.token {y = y} {k = j} {ys = ys} t d) x e (one q n) =
    let f : k.class ≡ j = ap (head_or j) e in
    let o = grow ks (suc i) (leads_token g t) (closed_behind y ys c) d x (ap tail_of e) n in
    record { cs = cons (leaf k) o.cs; grow = both (token (subst (λ z. Takes y z) (sym f) t) q) o.grow }
grow [] i g c (grammar.phrase {n = n} {r = r} {ys = ys} j d) x e z = clash (sym (never_ends d (closed_opened r n ys c) (some_opened r n ys c)) ∙ ap some (sym e))
grow {before = before} {l = l} (k ∷ ks) i g c (grammar.phrase {n = n} {r = r} {ys = ys} j d) x e z =
    let h = none_both (over n) i (excess d i) x in
    let s : r ≡ side n k.class = told_side k.class (classes ks) l e (grammar.phrase j d) g in
    opened n ys r k ks (index j) h.0 s (index_get j) j (grow (k ∷ ks) i (leads_phrase g j) (closed_opened r n ys c) d h.1 e z)
