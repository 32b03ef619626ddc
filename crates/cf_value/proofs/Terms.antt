-- What values stand for, under renamings and under binders.
use Rattle.std.specs.Prelude.{ℕ, zero, suc, ◌+◌, ◌<◌, ◌≤◌, Bool, true, false, nat_eq, List, ◌≡◌, refl}
use Rattle.std.proofs.Common.{arith}
use Rattle.std.proofs.lemmas.Bool.Decides.{nat_tests}
use mathlib.Core.Path.{ap, ap₂, sym, ◌∙◌, fun_ext}
use Rattle.cf_term.specs.Core.{Tm, var, node, cons, Part, parts, first_part, rest_parts}
use Rattle.cf_term.specs.Same.{bare}
use Rattle.cf_term.specs.Evaluation.{Done, evaluate}
use Rattle.cf_term.specs.Laws.{RenamingsCompose, RenamingOfSubstituted, SubstitutionsCompose, SubstitutionOfRenamed, SubstitutionOfVariables}
use Rattle.cf_term.specs.Substitution.{lift, lifts, rename, rename_all, up, ups, substitute, single}
use Rattle.cf_value.specs.Val.{Val, VParts, Vals, level, form, none, ready, frozen, empty, push}
use Rattle.cf_value.specs.Stands.{term_at, terms_at, env_at, with_level, with_levels, and_first}
use Rattle.cf_value.specs.Contexts.{IsKnown, AreKnown, AreKnownParts, below, or_levels, with_variables}
use Rattle.cf_value.specs.Laws.{RenamingOfValue, ValueOfContext, EnvironmentUnderBinders, ArgumentPutIn, VariablesAreValues, ValueUnderBinders, ValueOutOfBinders, ReadingsAgree}

-- ---- renaming

lift_choice : (f : ℕ → ℕ) (b : Bool) (m : ℕ) → lift f (elim b as (λ _. ℕ) [ true ↦ 0 | false ↦ suc m ]) ≡ elim b as (λ _. ℕ) [ true ↦ 0 | false ↦ suc (f m) ]
lift_choice f true m = refl
lift_choice f false m = refl

lift_level : (f at : ℕ → ℕ) (l n : ℕ) → lift f (with_level l at n) ≡ with_level l (λ m. f (at m)) n
lift_level f at l n = lift_choice f (nat_eq n l) (at n)

lifts_levels : (k : ℕ) (f at : ℕ → ℕ) (l n : ℕ) → lifts k f (with_levels k l at n) ≡ with_levels k l (λ m. f (at m)) n
lifts_levels zero f at l n = refl
lifts_levels (suc k) f at l n = lift_level (lifts k f) (with_levels k l at) (l + k) n ∙ ap (λ g. with_level (l + k) g n) (fun_ext (lifts_levels k f at l))

module _ (compose : RenamingsCompose) (put : RenamingOfSubstituted) where
  rename_up : (f : ℕ → ℕ) (s : ℕ → Tm) (i : ℕ) → rename (lift f) (up s i) ≡ up (λ j. rename f (s j)) i
  rename_up f s zero = refl
  rename_up f s (suc i) = compose (s i) (lift f) suc ∙ sym (compose (s i) suc f)

  rename_ups : (k : ℕ) (f : ℕ → ℕ) (s : ℕ → Tm) (i : ℕ) → rename (lifts k f) (ups k s i) ≡ ups k (λ j. rename f (s j)) i
  rename_ups zero f s i = refl
  rename_ups (suc k) f s i = rename_up (lifts k f) (ups k s) i ∙ ap (λ h. up h i) (fun_ext (rename_ups k f s))

  rename_first : (f : ℕ → ℕ) (u v : Tm) (s r : ℕ → Tm) → rename f u ≡ v → ((i : ℕ) → rename f (s i) ≡ r i) → (i : ℕ) → rename f (and_first u s i) ≡ and_first v r i
  rename_first f u v s r e es zero = e
  rename_first f u v s r e es (suc i) = es i

  mutual
    renamed : (v : Val) (f at : ℕ → ℕ) → rename f (term_at at v) ≡ term_at (λ n. f (at n)) v
    renamed (level n) f at = refl
    renamed (form h l ps) f at = ap (node h) (renamed_parts ps (parts h) l f at)

    renamed_parts : (ps : VParts) (qs : List Part) (l : ℕ) (f at : ℕ → ℕ) → rename_all f qs (terms_at at l qs ps) ≡ terms_at (λ n. f (at n)) l qs ps
    renamed_parts none qs l f at = refl
    renamed_parts (ready v ps) qs l f at =
        let k = (first_part qs).binds in
        ap₂ cons (renamed v (lifts k f) (with_levels k l at) ∙ ap (λ g. term_at g v) (fun_ext (lifts_levels k f at l))) (renamed_parts ps (rest_parts qs) l f at)
    renamed_parts (frozen e t ps) qs l f at =
        let k = (first_part qs).binds in
        ap₂ cons
        (put (bare t) (lifts k f) (ups k (env_at at e))
        ∙ ap (λ s. substitute s (bare t)) (fun_ext (λ i. rename_ups k f (env_at at e) i ∙ ap (λ s. ups k s i) (fun_ext (renamed_env e f at)))))
        (renamed_parts ps (rest_parts qs) l f at)

    renamed_env : (e : Vals) (f at : ℕ → ℕ) (i : ℕ) → rename f (env_at at e i) ≡ env_at (λ n. f (at n)) e i
    renamed_env empty f at i = refl
    renamed_env (push v e) f at i = rename_first f (term_at at v) (term_at (λ n. f (at n)) v) (env_at at e) (env_at (λ n. f (at n)) e) (renamed v f at) (renamed_env e f at) i

  pub renaming : RenamingOfValue
  renaming = renamed

-- ---- levels that matter

-- two readings agree on what is known
abbrev pub Agree : (known : ℕ → Type 0) → (at to : ℕ → ℕ) → Type 0
Agree known at to = (n : ℕ) → known n → at n ≡ to n

agree_choice : (b : Bool) (x : Type 0) (p q : ℕ) → (x → p ≡ q) → elim b as (λ _. Type 0) [ true ↦ Unit {0} | false ↦ x ]
    → elim b as (λ _. ℕ) [ true ↦ 0 | false ↦ suc p ] ≡ elim b as (λ _. ℕ) [ true ↦ 0 | false ↦ suc q ]
agree_choice true x p q f h = refl
agree_choice false x p q f h = ap suc (f h)

agree_levels : (k l : ℕ) (known : ℕ → Type 0) (at to : ℕ → ℕ) → Agree known at to → Agree (or_levels k l known) (with_levels k l at) (with_levels k l to)
agree_levels zero l known at to a = a
agree_levels (suc k) l known at to a = λ n h. agree_choice (nat_eq n (l + k)) (or_levels k l known n) (with_levels k l at n) (with_levels k l to n) (agree_levels k l known at to a n) h

first_agree : (u v : Tm) (s r : ℕ → Tm) → u ≡ v → ((i : ℕ) → s i ≡ r i) → (i : ℕ) → and_first u s i ≡ and_first v r i
first_agree u v s r e es zero = e
first_agree u v s r e es (suc i) = es i

mutual
  -- readings that agree on the known levels give the same term
  pub agree : (v : Val) (known : ℕ → Type 0) (at to : ℕ → ℕ) → IsKnown known v → Agree known at to → term_at at v ≡ term_at to v
  agree (level n) known at to h a = ap var (a n h)
  agree (form c l ps) known at to h a = ap (node c) (agree_parts ps (parts c) l known at to h.2 a)

  agree_parts : (ps : VParts) (qs : List Part) (l : ℕ) (known : ℕ → Type 0) (at to : ℕ → ℕ) → AreKnownParts known l qs ps → Agree known at to → terms_at at l qs ps ≡ terms_at to l qs ps
  agree_parts none qs l known at to h a = refl
  agree_parts (ready v ps) qs l known at to h a =
      let k = (first_part qs).binds in
      ap₂ cons (agree v (or_levels k l known) (with_levels k l at) (with_levels k l to) h.1 (agree_levels k l known at to a)) (agree_parts ps (rest_parts qs) l known at to h.2 a)
  agree_parts (frozen e t ps) qs l known at to h a =
      ap₂ cons (ap (λ s. substitute (ups (first_part qs).binds s) (bare t)) (fun_ext (agree_env e known at to h.2 a))) (agree_parts ps (rest_parts qs) l known at to h.3 a)

  pub agree_env : (e : Vals) (known : ℕ → Type 0) (at to : ℕ → ℕ) → AreKnown known e → Agree known at to → (i : ℕ) → env_at at e i ≡ env_at to e i
  agree_env empty known at to h a i = refl
  agree_env (push v e) known at to h a i = first_agree (term_at at v) (term_at to v) (env_at at e) (env_at to e) (agree v known at to h.0 a) (agree_env e known at to h.1 a) i

-- ---- under binders

-- a new level does not stand for what is known
new_level : (d k n : ℕ) (at : ℕ → ℕ) → n < d + k → with_level (d + k) at n ≡ suc (at n)
new_level d k n at h = let e : nat_eq n (d + k) ≡ false = grind (arith, nat_tests) in rw (with_level, e) refl

own_level : (l : ℕ) (at : ℕ → ℕ) → with_level l at l ≡ 0
own_level l at = let e : nat_eq l l ≡ true = grind (arith, nat_tests) in rw (with_level, e) refl

more_choice : (b : Bool) {x y : Type 0} → (x → y) → elim b as (λ _. Type 0) [ true ↦ Unit {0} | false ↦ x ] → elim b as (λ _. Type 0) [ true ↦ Unit {0} | false ↦ y ]
more_choice true f h = h
more_choice false f h = f h

more_levels : (k l : ℕ) (known knows : ℕ → Type 0) → ((n : ℕ) → known n → knows n) → (n : ℕ) → or_levels k l known n → or_levels k l knows n
more_levels zero l known knows f n h = f n h
more_levels (suc k) l known knows f n h = more_choice (nat_eq n (l + k)) (more_levels k l known knows f n) h

mutual
  -- what is known where less was known
  pub more : (v : Val) (known knows : ℕ → Type 0) → ((n : ℕ) → known n → knows n) → IsKnown known v → IsKnown knows v
  more (level n) known knows f h = f n h
  more (form c l ps) known knows f h = (h.0, h.1, more_parts ps (parts c) l known knows f h.2)

  more_parts : (ps : VParts) (qs : List Part) (l : ℕ) (known knows : ℕ → Type 0) → ((n : ℕ) → known n → knows n) → AreKnownParts known l qs ps → AreKnownParts knows l qs ps
  more_parts none qs l known knows f h = tt
  more_parts (ready v ps) qs l known knows f h =
      (h.0, more v (or_levels (first_part qs).binds l known) (or_levels (first_part qs).binds l knows) (more_levels (first_part qs).binds l known knows f) h.1, more_parts ps (rest_parts qs) l known knows f h.2)
  more_parts (frozen e t ps) qs l known knows f h = (h.0, h.1, more_env e known knows f h.2, more_parts ps (rest_parts qs) l known knows f h.3)

  pub more_env : (e : Vals) (known knows : ℕ → Type 0) → ((n : ℕ) → known n → knows n) → AreKnown known e → AreKnown knows e
  more_env empty known knows f h = tt
  more_env (push v e) known knows f h = (more v known knows f h.0, more_env e known knows f h.1)

pub known_variables : (k d : ℕ) (e : Vals) → AreKnown (below d) e → AreKnown (below (d + k)) (with_variables k d e)
known_variables zero d e h = more_env e (below d) (below (d + 0)) (λ n g. omega (arith, g)) h
known_variables (suc k) d e h = (omega arith, more_env (with_variables k d e) (below (d + k)) (below (d + suc k)) (λ n g. omega (arith, g)) (known_variables k d e h))

module _ (renaming : RenamingOfValue) where
  rename_env : (e : Vals) (f at : ℕ → ℕ) (i : ℕ) → rename f (env_at at e i) ≡ env_at (λ n. f (at n)) e i
  rename_env empty f at i = refl
  rename_env (push v e) f at zero = renaming v f at
  rename_env (push v e) f at (suc i) = rename_env e f at i

  up_env : (l : ℕ) (e : Vals) (known : ℕ → Type 0) (at : ℕ → ℕ) → AreKnown known e → ((n : ℕ) → known n → with_level l at n ≡ suc (at n))
      → (i : ℕ) → env_at (with_level l at) (push (level l) e) i ≡ up (env_at at e) i
  up_env l e known at h new zero = ap var (own_level l at)
  up_env l e known at h new (suc i) = agree_env e known (with_level l at) (λ n. suc (at n)) h new i ∙ sym (rename_env e suc at i)

  pub under_binders : EnvironmentUnderBinders
  under_binders zero d e h at i = refl
  under_binders (suc k) d e h at i =
      up_env (d + k) (with_variables k d e) (below (d + k)) (with_levels k d at) (known_variables k d e h) (λ n g. new_level d k n (with_levels k d at) g) i
      ∙ ap (λ s. up s i) (fun_ext (under_binders k d e h at))

-- ---- arguments

module _ (compose : SubstitutionsCompose) (renamed : SubstitutionOfRenamed) (variables : SubstitutionOfVariables) where
  single_up : (u : Tm) (s : ℕ → Tm) (i : ℕ) → substitute (single u) (up s i) ≡ and_first u s i
  single_up u s zero = refl
  single_up u s (suc i) = renamed (s i) (single u) suc ∙ variables (s i)

  pub put_in : ArgumentPutIn
  put_in t u e at = compose t (single (term_at at u)) (up (env_at at e)) ∙ ap (λ s. substitute s t) (fun_ext (single_up (term_at at u) (env_at at e)))

variable_stays : (i k d : ℕ) → evaluate k d (var i) ≡ Done (var i) k
variable_stays i zero d = refl
variable_stays i (suc k) d = refl

pub stands_for_value : ValueOfContext
stands_for_value d (level n) h at = variable_stays (at n)
stands_for_value d (form c l ps) h at = h.0 at

-- ---- contexts

pub variables : VariablesAreValues
variables n d e h = known_variables n d e h

or_choice : (b : Bool) (x y : Type 0) → (b ≡ false → x → y) → x → elim b as (λ _. Type 0) [ true ↦ Unit {0} | false ↦ y ]
or_choice true x y f h = tt
or_choice false x y f h = f refl h

below_levels : (k d n : ℕ) → n < d + k → or_levels k d (below d) n
below_levels zero d n h = omega (arith, h)
below_levels (suc k) d n h =
    or_choice (nat_eq n (d + k)) (n < d + suc k) (or_levels k d (below d) n) (λ e g. below_levels k d n (let x : nat_eq n (d + k) ≡ false = e in grind (arith, nat_tests, x, g))) h

pub under : ValueUnderBinders
under k d v h = more v (below (d + k)) (or_levels k d (below d)) (λ n g. below_levels k d n g) h

from_choice : (b : Bool) (x y : Type 0) → (b ≡ true → y) → (x → y) → elim b as (λ _. Type 0) [ true ↦ Unit {0} | false ↦ x ] → y
from_choice true x y f g h = f refl
from_choice false x y f g h = g h

levels_below : (k l d m n : ℕ) → l + k ≤ m → d ≤ m → or_levels k l (below d) n → n < m
levels_below zero l d m n h g q = omega (arith, g, q)
levels_below (suc k) l d m n h g q =
    from_choice (nat_eq n (l + k)) (or_levels k l (below d) n) (n < m) (λ e. let x : nat_eq n (l + k) ≡ true = e in grind (arith, nat_tests, x, h)) (λ r. levels_below k l d m n (omega (arith, h)) g r) q

pub out : ValueOutOfBinders
out k l d m v h g q = more v (or_levels k l (below d)) (below m) (λ n r. levels_below k l d m n h g r) q

pub readings : ReadingsAgree
readings d v at to h a = agree v (below d) at to h a
