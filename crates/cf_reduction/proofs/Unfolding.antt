-- Evaluation within a number of steps in a row does not depend on that number, if it is no less than the steps.
use Rattle.std.specs.Prelude.{ℕ, zero, suc, ◌≤◌, ◌<◌, Bool, true, false, List, Option, Some, None, ◌≡◌, refl}
use Rattle.std.proofs.Common.{arith}
use mathlib.Core.Path.{ap, ◌∙◌, subst}
use Rattle.cf_term.specs.Core.{Tm, var, node, Tms, nil, cons, Head, Part, parts, first_part, rest_parts}
use Rattle.cf_term.specs.Evaluation.{Out, Done, Spent, Deep, Outs, AllDone, AllSpent, AllDeep, evaluate_by, evaluate_all_by, evaluate_within, evaluate, contract, formed, step, step_or, finish, before, and_then}
use Rattle.cf_reduction.specs.Laws.{EvaluationGoesOn, EvaluationSpends}

-- ---- at most as many steps are left

abbrev AtMost : ℕ → Out → Type 0
AtMost k (Done v l) = l ≤ k
AtMost k Spent = Unit {0}
AtMost k Deep = Unit {0}

abbrev AllAtMost : ℕ → Outs → Type 0
AllAtMost k (AllDone vs l) = l ≤ k
AllAtMost k AllSpent = Unit {0}
AllAtMost k AllDeep = Unit {0}

-- what goes on after a step makes no steps
abbrev Saves : (ℕ → ℕ → Tm → Out) → Type 0
Saves f = (k d : ℕ) (t : Tm) → AtMost k (f k d t)

more_most : (j k : ℕ) (o : Out) → j ≤ k → AtMost j o → AtMost k o
more_most j k (Done v l) h a = omega (arith, h, a)
more_most j k Spent h a = tt
more_most j k Deep h a = tt

before_most : (k : ℕ) (v : Tm) (o : Outs) → AllAtMost k o → AllAtMost k (before v o)
before_most k v (AllDone vs l) h = h
before_most k v AllSpent h = tt
before_most k v AllDeep h = tt

then_most : (k : ℕ) (o : Out) (rest : ℕ → Outs) → AtMost k o → ((l : ℕ) → l ≤ k → AllAtMost k (rest l)) → AllAtMost k (and_then o rest)
then_most k (Done v l) rest h f = before_most k v (rest l) (f l h)
then_most k Spent rest h f = tt
then_most k Deep rest h f = tt

step_most : (f : ℕ → ℕ → Tm → Out) → Saves f → (j k d : ℕ) (r : Tm) → j ≤ k → AtMost k (step f j d r)
step_most f s zero k d r h = tt
step_most f s (suc j) k zero r h = tt
step_most f s (suc j) k (suc d) r h = more_most j k (f j d r) (omega (arith, h)) (s j d r)

or_most : (f : ℕ → ℕ → Tm → Out) → Saves f → (j k d : ℕ) (v : Tm) (o : Option Tm) → j ≤ k → AtMost k (step_or f j d v o)
or_most f s j k d v None h = h
or_most f s j k d v (Some r) h = step_most f s j k d r h

finish_most : (f : ℕ → ℕ → Tm → Out) → Saves f → (k d : ℕ) (h : Head) (o : Outs) → AllAtMost k o → AtMost k (finish f d h o)
finish_most f s k d h (AllDone vs l) a = or_most f s l k d (formed h vs) (contract h vs) a
finish_most f s k d h AllSpent a = tt
finish_most f s k d h AllDeep a = tt

choose : (b : Bool) {x y : Outs} (P : Outs → Type 0) → P x → P y → P (elim b [ true ↦ x | false ↦ y ])
choose true P p q = p
choose false P p q = q

mutual
  saves_by : (t : Tm) (f : ℕ → ℕ → Tm → Out) → Saves f → (j k d : ℕ) → j ≤ k → AtMost k (evaluate_by f j d t)
  saves_by (var i) f s j k d h = h
  saves_by (node c ts) f s j k d h = finish_most f s k d c (evaluate_all_by f j d (parts c) ts) (saves_all_by ts f s j k d (parts c) h)

  saves_all_by : (ts : Tms) (f : ℕ → ℕ → Tm → Out) → Saves f → (j k d : ℕ) (ps : List Part) → j ≤ k → AllAtMost k (evaluate_all_by f j d ps ts)
  saves_all_by nil f s j k d ps h = h
  saves_all_by (cons t ts) f s j k d ps h =
      choose (first_part ps).kept (AllAtMost k)
      (before_most k t (evaluate_all_by f j d (rest_parts ps) ts) (saves_all_by ts f s j k d (rest_parts ps) h))
      (then_most k (evaluate_by f j d t) (λ l. evaluate_all_by f l d (rest_parts ps) ts) (saves_by t f s j k d h) (λ l g. saves_all_by ts f s l k d (rest_parts ps) g))

saves_within : (n : ℕ) → Saves (evaluate_within n)
saves_within zero k d t = saves_by t (λ _ _ _. Spent) (λ _ _ _. tt) k k d (omega arith)
saves_within (suc n) k d t = saves_by t (evaluate_within n) (saves_within n) k k d (omega arith)

-- ---- what follows a step matters below the steps alone

abbrev AgreeBelow : ℕ → (f g : ℕ → ℕ → Tm → Out) → Type 0
AgreeBelow k f g = (j d : ℕ) (t : Tm) → j < k → f j d t ≡ g j d t

then_same : (k : ℕ) (o : Out) (rest more : ℕ → Outs) → AtMost k o → ((l : ℕ) → l ≤ k → rest l ≡ more l) → and_then o rest ≡ and_then o more
then_same k (Done v l) rest more h f = ap (before v) (f l h)
then_same k Spent rest more h f = refl
then_same k Deep rest more h f = refl

step_same : (f g : ℕ → ℕ → Tm → Out) (j k d : ℕ) (r : Tm) → AgreeBelow k f g → j ≤ k → step f j d r ≡ step g j d r
step_same f g zero k d r a h = refl
step_same f g (suc j) k zero r a h = refl
step_same f g (suc j) k (suc d) r a h = a j d r (omega (arith, h))

or_same : (f g : ℕ → ℕ → Tm → Out) (j k d : ℕ) (v : Tm) (o : Option Tm) → AgreeBelow k f g → j ≤ k → step_or f j d v o ≡ step_or g j d v o
or_same f g j k d v None a h = refl
or_same f g j k d v (Some r) a h = step_same f g j k d r a h

finish_same : (f g : ℕ → ℕ → Tm → Out) (k d : ℕ) (h : Head) (o : Outs) → AgreeBelow k f g → AllAtMost k o → finish f d h o ≡ finish g d h o
finish_same f g k d h (AllDone vs l) a m = or_same f g l k d (formed h vs) (contract h vs) a m
finish_same f g k d h AllSpent a m = refl
finish_same f g k d h AllDeep a m = refl

choose_same : (b : Bool) {x y v w : Outs} → x ≡ v → y ≡ w → elim b as (λ _. Outs) [ true ↦ x | false ↦ y ] ≡ elim b as (λ _. Outs) [ true ↦ v | false ↦ w ]
choose_same true p q = p
choose_same false p q = q

mutual
  same_by : (t : Tm) (f g : ℕ → ℕ → Tm → Out) → Saves f → (j k d : ℕ) → AgreeBelow k f g → j ≤ k → evaluate_by f j d t ≡ evaluate_by g j d t
  same_by (var i) f g s j k d a h = refl
  same_by (node c ts) f g s j k d a h =
      finish_same f g k d c (evaluate_all_by f j d (parts c) ts) a (saves_all_by ts f s j k d (parts c) h)
      ∙ ap (finish g d c) (same_all_by ts f g s j k d (parts c) a h)

  same_all_by : (ts : Tms) (f g : ℕ → ℕ → Tm → Out) → Saves f → (j k d : ℕ) (ps : List Part) → AgreeBelow k f g → j ≤ k → evaluate_all_by f j d ps ts ≡ evaluate_all_by g j d ps ts
  same_all_by nil f g s j k d ps a h = refl
  same_all_by (cons t ts) f g s j k d ps a h =
      choose_same (first_part ps).kept
      (ap (before t) (same_all_by ts f g s j k d (rest_parts ps) a h))
      (then_same k (evaluate_by f j d t) (λ l. evaluate_all_by f l d (rest_parts ps) ts) (λ l. evaluate_all_by g l d (rest_parts ps) ts)
      (saves_by t f s j k d h) (λ l m. same_all_by ts f g s l k d (rest_parts ps) a m)
      ∙ ap (λ o. and_then o (λ l. evaluate_all_by g l d (rest_parts ps) ts)) (same_by t f g s j k d a h))

room : (n m k d : ℕ) (t : Tm) → k ≤ n → k ≤ m → evaluate_within n k d t ≡ evaluate_within m k d t
room zero zero k d t h g = refl
room zero (suc m) k d t h g = same_by t (λ _ _ _. Spent) (evaluate_within m) (λ _ _ _. tt) k k d (λ j e u l. absurd (omega (arith, l, h))) (omega arith)
room (suc n) zero k d t h g = same_by t (evaluate_within n) (λ _ _ _. Spent) (saves_within n) k k d (λ j e u l. absurd (omega (arith, l, g))) (omega arith)
room (suc n) (suc m) k d t h g =
    same_by t (evaluate_within n) (evaluate_within m) (saves_within n) k k d (λ j e u l. room n m j e u (omega (arith, l, h)) (omega (arith, l, g))) (omega arith)

pub goes_on : EvaluationGoesOn
goes_on zero d t = same_by t (λ _ _ _. Spent) evaluate (λ _ _ _. tt) 0 0 d (λ j e u l. absurd (omega (arith, l))) (omega arith)
goes_on (suc k) d t =
    same_by t (evaluate_within k) evaluate (saves_within k) (suc k) (suc k) d (λ j e u l. room k j j e u (omega (arith, l)) (omega arith)) (omega arith)

saves : Saves evaluate
saves k d t = saves_within k k d t

most_done : (k : ℕ) (o : Out) (v : Tm) (l : ℕ) → o ≡ Done v l → AtMost k o → l ≤ k
most_done k o v l e h = subst (AtMost k) e h

pub spent : EvaluationSpends
spent t k d v l e = most_done k (evaluate k d t) v l e (saves k d t)
