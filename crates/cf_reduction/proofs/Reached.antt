-- What evaluation answers is reached by reductions. One proof for all forms.
use Rattle.std.specs.Prelude.{ℕ, zero, suc, List, Option, Some, None, ◌≡◌, refl}
use mathlib.Core.Path.{ap, subst}
use Rattle.cf_term.specs.Core.{Tm, var, node, Tms, nil, cons, Head, Part, parts, first_part, rest_parts, QuoteH, SpliceH}
use Rattle.cf_term.specs.Evaluation.{Out, Done, Spent, Deep, Outs, AllDone, AllSpent, AllDeep, contract, quote_of, formed, step, step_or, finish, before, and_then, evaluate_by, evaluate_all_by, evaluate_within}
use Rattle.cf_term.specs.Reductions.{at_root, unquote, Reaches, there, after, beneath}
use Rattle.cf_reduction.specs.Laws.{EvaluationReaches}
use Rattle.cf_reduction.proofs.Answered.{value_of, values_of, not_spent, not_deep, none_spent, none_deep, by_cases}
use Rattle.cf_reduction.proofs.Steps.{ReachesAll, all_there, in_turn, all_in_turn, in_parts, in_first, in_rest}

-- what goes on after a step answers what is reached
abbrev Reached : (ℕ → ℕ → Tm → Out) → Type 0
Reached next = (k d : ℕ) (t v : Tm) (l : ℕ) → next k d t ≡ Done v l → (known : ℕ → Option Tm) → Reaches known t v

to_quote : {known : ℕ → Option Tm} (t : Tm) → Reaches known (node QuoteH (cons t nil)) (quote_of t)
to_quote (node SpliceH (cons n nil)) = after unquote there
to_quote (node SpliceH nil) = there
to_quote (node SpliceH (cons n (cons m ms))) = there
to_quote (node h us) = there
to_quote (var i) = there

to_formed : {known : ℕ → Option Tm} (h : Head) (vs : Tms) → Reaches known (node h vs) (formed h vs)
to_formed QuoteH (cons t nil) = to_quote t
to_formed QuoteH nil = there
to_formed QuoteH (cons t (cons u us)) = there
to_formed _ _ = there

step_reached : (next : ℕ → ℕ → Tm → Out) → Reached next → (k d : ℕ) (r v : Tm) (l : ℕ) → step next k d r ≡ Done v l → (known : ℕ → Option Tm) → Reaches known r v
step_reached next ok zero d r v l e known = absurd (not_spent e)
step_reached next ok (suc k) zero r v l e known = absurd (not_deep e)
step_reached next ok (suc k) (suc d) r v l e known = ok k d r v l e known

step_or_reached : (next : ℕ → ℕ → Tm → Out) → Reached next → (k d : ℕ) (h : Head) (vs : Tms) (c : Option Tm) → contract h vs ≡ c → (v : Tm) (l : ℕ) → step_or next k d (formed h vs) c ≡ Done v l → (known : ℕ → Option Tm) → Reaches known (node h vs) v
step_or_reached next ok k d h vs None e v l p known = subst (Reaches known (node h vs)) (ap (λ o. value_of o v) p) (to_formed h vs)
step_or_reached next ok k d h vs (Some r) e v l p known = after (at_root e) (step_reached next ok k d r v l p known)

finish_reached : (next : ℕ → ℕ → Tm → Out) → Reached next → (d : ℕ) (h : Head) (ts : Tms) (o : Outs) → ((vs : Tms) (l : ℕ) → o ≡ AllDone vs l → (known : ℕ → Option Tm) → ReachesAll known (parts h) ts vs) → (v : Tm) (l : ℕ) → finish next d h o ≡ Done v l → (known : ℕ → Option Tm) → Reaches known (node h ts) v
finish_reached next ok d h ts (AllDone vs k) ih v l p known = in_turn (in_parts h (ih vs k refl known)) (step_or_reached next ok k d h vs (contract h vs) refl v l p known)
finish_reached next ok d h ts AllSpent ih v l p known = absurd (not_spent p)
finish_reached next ok d h ts AllDeep ih v l p known = absurd (not_deep p)

pub before_reached : (ps : List Part) (t v : Tm) (ts : Tms) (o : Outs) → ((vs : Tms) (l : ℕ) → o ≡ AllDone vs l → (known : ℕ → Option Tm) → ReachesAll known (rest_parts ps) ts vs) → ((known : ℕ → Option Tm) → Reaches known t v) → (vs : Tms) (l : ℕ) → before v o ≡ AllDone vs l → (known : ℕ → Option Tm) → ReachesAll known ps (cons t ts) vs
before_reached ps t v ts (AllDone ws k) ih s vs l p known =
    subst (ReachesAll known ps (cons t ts)) (ap (λ o. values_of o vs) p)
    (all_in_turn (in_first ps ts (s (beneath (first_part ps).binds known))) (in_rest ps v (ih ws k refl known)))
before_reached ps t v ts AllSpent ih s vs l p known = absurd (none_spent p)
before_reached ps t v ts AllDeep ih s vs l p known = absurd (none_deep p)

pub then_reached : (ps : List Part) (t : Tm) (ts : Tms) (o : Out) (rest : ℕ → Outs) → ((v : Tm) (l : ℕ) → o ≡ Done v l → (known : ℕ → Option Tm) → Reaches known t v) → ((k : ℕ) (vs : Tms) (l : ℕ) → rest k ≡ AllDone vs l → (known : ℕ → Option Tm) → ReachesAll known (rest_parts ps) ts vs) → (vs : Tms) (l : ℕ) → and_then o rest ≡ AllDone vs l → (known : ℕ → Option Tm) → ReachesAll known ps (cons t ts) vs
then_reached ps t ts (Done v k) rest first ih vs l p known = before_reached ps t v ts (rest k) (ih k) (first v k refl) vs l p known
then_reached ps t ts Spent rest first ih vs l p known = absurd (none_spent p)
then_reached ps t ts Deep rest first ih vs l p known = absurd (none_deep p)

mutual
  evaluate_by_reached : (t : Tm) (next : ℕ → ℕ → Tm → Out) → Reached next → (k d : ℕ) (v : Tm) (l : ℕ) → evaluate_by next k d t ≡ Done v l → (known : ℕ → Option Tm) → Reaches known t v
  evaluate_by_reached (var i) next ok k d v l p known = subst (Reaches known (var i)) (ap (λ o. value_of o v) p) there
  evaluate_by_reached (node h ts) next ok k d v l p known =
      finish_reached next ok d h ts (evaluate_all_by next k d (parts h) ts) (λ vs j q all. evaluate_all_by_reached ts next ok k d (parts h) vs j q all) v l p known

  evaluate_all_by_reached : (ts : Tms) (next : ℕ → ℕ → Tm → Out) → Reached next → (k d : ℕ) (ps : List Part) (vs : Tms) (l : ℕ) → evaluate_all_by next k d ps ts ≡ AllDone vs l → (known : ℕ → Option Tm) → ReachesAll known ps ts vs
  evaluate_all_by_reached nil next ok k d ps vs l p known = subst (ReachesAll known ps nil) (ap (λ o. values_of o vs) p) all_there
  evaluate_all_by_reached (cons t ts) next ok k d ps vs l p known =
      by_cases (first_part ps).kept (λ o. (o ≡ AllDone vs l) → ReachesAll known ps (cons t ts) vs)
      (λ b q. before_reached ps t t ts (evaluate_all_by next k d (rest_parts ps) ts) (λ ws j r all. evaluate_all_by_reached ts next ok k d (rest_parts ps) ws j r all) (λ all. there) vs l q known)
      (λ b q. then_reached ps t ts (evaluate_by next k d t) (λ j. evaluate_all_by next j d (rest_parts ps) ts) (λ v j r all. evaluate_by_reached t next ok k d v j r all) (λ j ws m r all. evaluate_all_by_reached ts next ok j d (rest_parts ps) ws m r all) vs l q known)
      p

within_reached : (n : ℕ) → Reached (evaluate_within n)
within_reached zero k d t v l p known = evaluate_by_reached t (λ _ _ _. Spent) (λ k' d' t' v' l' q all. absurd (not_spent q)) k d v l p known
within_reached (suc n) k d t v l p known = evaluate_by_reached t (evaluate_within n) (within_reached n) k d v l p known

pub evaluation_reaches : EvaluationReaches
evaluation_reaches t k d v l p known = within_reached k k d t v l p known
