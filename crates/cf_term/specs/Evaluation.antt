-- Evaluation with a number of steps and a nest, by plain substitution. Parts that are not kept are evaluated first, in
-- written order; then a form of the table takes one step, and what it makes is evaluated with one step less, one nest lower.
use Rattle.std.specs.Prelude.{◌≡◌, ℕ, zero, suc, true, false, List, Option, Some, None}
use Rattle.cf_term.specs.Core.{Tm, var, node, Tms, nil, cons, Head, Part, parts, first_part, rest_parts, AppH, LetH, FstH, SndH, UnitRecH, BoolRecH, NatRecH, ListRecH, QuoteH, SpliceH}
use Rattle.cf_term.specs.Forms.{App, Lam, Pair, Triv, True, False, Zero, Suc, NatRec, Nil, Cons, ListRec, Quote, Splice}
use Rattle.cf_term.specs.Substitution.{instance}

-- ---- answers

-- a value and the steps that are left; or no step was left, or the nest was too deep
pub data Out : Type 0 where
  Done : (value : Tm) → (left : ℕ) → Out
  Spent : Out
  Deep : Out

-- the same of parts
pub data Outs : Type 0 where
  AllDone : (values : Tms) → (left : ℕ) → Outs
  AllSpent : Outs
  AllDeep : Outs

-- ---- steps: what a form with evaluated parts becomes, where it is in the table

-- a lambda applied to an argument
abbrev pub applied : Tm → Tm → Option Tm
applied (Lam i a t) u = Some (instance t u)
applied _ u = None

-- the first component of a pair
abbrev pub first_of : Tm → Option Tm
first_of (Pair s t u) = Some t
first_of _ = None

-- the second component of a pair
abbrev pub second_of : Tm → Option Tm
second_of (Pair s t u) = Some u
second_of _ = None

-- the case for `unit`
abbrev pub unit_case : Tm → Tm → Option Tm
unit_case u Triv = Some u
unit_case u _ = None

-- the case for `true` or for `false`
abbrev pub bool_case : Tm → Tm → Tm → Option Tm
bool_case t f True = Some t
bool_case t f False = Some f
bool_case t f _ = None

-- the case for `zero`, or s m (natrec p z s m) for `suc m`
abbrev pub nat_case : Tm → Tm → Tm → Tm → Option Tm
nat_case p z s Zero = Some z
nat_case p z s (Suc m) = Some (App false (App false s m) (NatRec p z s m))
nat_case p z s _ = None

-- the case for `nil`, or c x y (listrec p n c y) for `cons x y`
abbrev pub list_case : Tm → Tm → Tm → Tm → Option Tm
list_case p n c (Nil a) = Some n
list_case p n c (Cons x y) = Some (App false (App false (App false c x) y) (ListRec p n c y))
list_case p n c _ = None

-- what is quoted
abbrev pub quoted : Tm → Option Tm
quoted (Quote t) = Some t
quoted _ = None

-- what one step makes of a form with these parts, if it is in the table
abbrev pub contract : Head → Tms → Option Tm
contract (AppH i) (cons t (cons u nil)) = applied t u
contract LetH (cons a (cons t (cons u nil))) = Some (instance u t)
contract FstH (cons t nil) = first_of t
contract SndH (cons t nil) = second_of t
contract UnitRecH (cons p (cons u (cons n nil))) = unit_case u n
contract BoolRecH (cons p (cons t (cons f (cons n nil)))) = bool_case t f n
contract NatRecH (cons p (cons z (cons s (cons n nil)))) = nat_case p z s n
contract ListRecH (cons p (cons n (cons c (cons l nil)))) = list_case p n c l
contract SpliceH (cons t nil) = quoted t
contract _ _ = None

-- ---- forms that take no step

-- a quote of this term; <~n> is n
abbrev pub quote_of : Tm → Tm
quote_of (Splice n) = n
quote_of t = Quote t

-- the value of a form with evaluated parts that takes no step
abbrev pub formed : Head → Tms → Tm
formed QuoteH (cons t nil) = quote_of t
formed h ts = node h ts

-- ---- evaluation

-- takes the step to r, and goes on by `next` with one step less, one nest lower
abbrev pub step : (next : ℕ → ℕ → Tm → Out) → (k d : ℕ) → Tm → Out
step next zero d r = Spent
step next (suc k) zero r = Deep
step next (suc k) (suc d) r = next k d r

-- takes a step where there is one, else answers this value
abbrev pub step_or : (next : ℕ → ℕ → Tm → Out) → (k d : ℕ) → Tm → Option Tm → Out
step_or next k d v None = Done v k
step_or next k d v (Some r) = step next k d r

-- a form with its parts evaluated
abbrev pub finish : (next : ℕ → ℕ → Tm → Out) → (d : ℕ) → Head → Outs → Out
finish next d h (AllDone vs k) = step_or next k d (formed h vs) (contract h vs)
finish next d h AllSpent = Spent
finish next d h AllDeep = Deep

-- one more value before others
abbrev pub before : Tm → Outs → Outs
before v (AllDone vs k) = AllDone (cons v vs) k
before v AllSpent = AllSpent
before v AllDeep = AllDeep

-- a value, and then others with the steps that it left
abbrev pub and_then : Out → (ℕ → Outs) → Outs
and_then (Done v k) rest = before v (rest k)
and_then Spent rest = AllSpent
and_then Deep rest = AllDeep

-- the parts in order, then the step; `next` is what follows a step
abbrev mutual
  pub evaluate_by : (next : ℕ → ℕ → Tm → Out) → (k d : ℕ) → Tm → Out
  evaluate_by next k d (var i) = Done (var i) k
  evaluate_by next k d (node h ts) = finish next d h (evaluate_all_by next k d (parts h) ts)

  pub evaluate_all_by : (next : ℕ → ℕ → Tm → Out) → (k d : ℕ) → List Part → Tms → Outs
  evaluate_all_by next k d ps nil = AllDone nil k
  evaluate_all_by next k d ps (cons t ts) =
      elim (first_part ps).kept [
        | true ↦ before t (evaluate_all_by next k d (rest_parts ps) ts)
        | false ↦ and_then (evaluate_by next k d t) (λ l. evaluate_all_by next l d (rest_parts ps) ts)
      ]

-- with at most n steps in a row
abbrev pub evaluate_within : (n k d : ℕ) → Tm → Out
evaluate_within zero k d t = evaluate_by (λ _ _ _. Spent) k d t
evaluate_within (suc n) k d t = evaluate_by (evaluate_within n) k d t

-- the value of a term without marks, by at most k steps within a nest of d
abbrev pub evaluate : (k d : ℕ) → Tm → Out
evaluate k d t = evaluate_within k k d t

-- a term that evaluates to itself in no step
abbrev pub IsValue : Tm → Type 0
IsValue v = (k d : ℕ) → evaluate k d v ≡ Done v k
