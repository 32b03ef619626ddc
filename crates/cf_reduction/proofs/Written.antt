-- What is written of a value is reached by reductions.
use Rattle.std.specs.Prelude.{ℕ, zero, suc, List, Option, ◌≡◌, refl}
use mathlib.Core.Path.{ap, subst}
use Rattle.cf_term.specs.Core.{Tm, var, node, Tms, nil, cons, Head, Part, parts, first_part, rest_parts}
use Rattle.cf_term.specs.Same.{bare}
use Rattle.cf_term.specs.Evaluation.{Out, Done, Spent, Deep, Outs, AllDone, AllSpent, AllDeep, evaluate}
use Rattle.cf_term.specs.NormalForms.{write_then, write_all_by, written, write_within, then_read_back}
use Rattle.cf_term.specs.Reductions.{Reaches, there}
use Rattle.cf_reduction.specs.Laws.{ReadingReaches, NormalFormReaches, ReadingOfValueReaches}
use Rattle.cf_reduction.proofs.Answered.{value_of, values_of, not_spent, not_deep, none_spent, none_deep, by_cases}
use Rattle.cf_reduction.proofs.Steps.{ReachesAll, all_there, in_turn, in_parts}
use Rattle.cf_reduction.proofs.Reached.{then_reached, evaluation_reaches}

-- what writes a part writes what is reached
abbrev Writes : (ℕ → Tm → Out) → Type 0
Writes write = (k : ℕ) (v t : Tm) (l : ℕ) → write k v ≡ Done t l → (known : ℕ → Option Tm) → Reaches known v t

-- the rest of the parts is reached
abbrev RestReached : List Part → Tms → (ℕ → Outs) → Type 0
RestReached ps ts rest = (k : ℕ) (vs : Tms) (l : ℕ) → rest k ≡ AllDone vs l → (known : ℕ → Option Tm) → ReachesAll known ps ts vs

write_then_reached : (write : ℕ → Tm → Out) → Writes write → (ps : List Part) (t : Tm) (ts : Tms) (o : Out) → ((v : Tm) (l : ℕ) → o ≡ Done v l → (known : ℕ → Option Tm) → Reaches known t v) → (rest : ℕ → Outs) → RestReached (rest_parts ps) ts rest → (vs : Tms) (l : ℕ) → write_then write o rest ≡ AllDone vs l → (known : ℕ → Option Tm) → ReachesAll known ps (cons t ts) vs
write_then_reached write ok ps t ts (Done v k) first rest ih vs l p known = then_reached ps t ts (write k v) rest (λ u j q all. in_turn (first v k refl all) (ok k v u j q all)) ih vs l p known
write_then_reached write ok ps t ts Spent first rest ih vs l p known = absurd (none_spent p)
write_then_reached write ok ps t ts Deep first rest ih vs l p known = absurd (none_deep p)

write_all_reached : (ts : Tms) (write : ℕ → Tm → Out) → Writes write → (k d : ℕ) (ps : List Part) (vs : Tms) (l : ℕ) → write_all_by write k d ps ts ≡ AllDone vs l → (known : ℕ → Option Tm) → ReachesAll known ps ts vs
write_all_reached nil write ok k d ps vs l p known = subst (ReachesAll known ps nil) (ap (λ o. values_of o vs) p) all_there
write_all_reached (cons t ts) write ok k d ps vs l p known =
    by_cases (first_part ps).kept (λ o. (o ≡ AllDone vs l) → ReachesAll known ps (cons t ts) vs)
    (λ b q. write_then_reached write ok ps t ts (evaluate k d t) (λ v j r all. evaluation_reaches t k d v j r all) (λ j. write_all_by write j d (rest_parts ps) ts) (λ j ws m r all. write_all_reached ts write ok j d (rest_parts ps) ws m r all) vs l q known)
    (λ b q. then_reached ps t ts (write k t) (λ j. write_all_by write j d (rest_parts ps) ts) (λ v j r all. ok k t v j r all) (λ j ws m r all. write_all_reached ts write ok j d (rest_parts ps) ws m r all) vs l q known)
    p

written_reached : (h : Head) (ts : Tms) (o : Outs) → ((vs : Tms) (l : ℕ) → o ≡ AllDone vs l → (known : ℕ → Option Tm) → ReachesAll known (parts h) ts vs) → (v : Tm) (l : ℕ) → written h o ≡ Done v l → (known : ℕ → Option Tm) → Reaches known (node h ts) v
written_reached h ts (AllDone vs k) ih v l p known = subst (Reaches known (node h ts)) (ap (λ o. value_of o v) p) (in_parts h (ih vs k refl known))
written_reached h ts AllSpent ih v l p known = absurd (not_spent p)
written_reached h ts AllDeep ih v l p known = absurd (not_deep p)

write_within_reached : (n d : ℕ) → Writes (write_within n d)
write_within_reached zero d k v t l p known = absurd (not_spent p)
write_within_reached (suc n) d zero v t l p known = absurd (not_spent p)
write_within_reached (suc n) d (suc k) (var i) t l p known = subst (Reaches known (var i)) (ap (λ o. value_of o t) p) there
write_within_reached (suc n) d (suc k) (node h ts) t l p known =
    written_reached h ts (write_all_by (write_within n d) k d (parts h) ts) (λ vs j q all. write_all_reached ts (write_within n d) (write_within_reached n d) k d (parts h) vs j q all) t l p known

pub reading_reaches : ReadingReaches
reading_reaches v k d t l p known = write_within_reached k d k v t l p known

then_read_reached : (d : ℕ) (s : Tm) (o : Out) → ((v : Tm) (l : ℕ) → o ≡ Done v l → (known : ℕ → Option Tm) → Reaches known s v) → (u : Tm) (l : ℕ) → then_read_back d o ≡ Done u l → (known : ℕ → Option Tm) → Reaches known s u
then_read_reached d s (Done v k) first u l p known = in_turn (first v k refl known) (reading_reaches v k d u l p known)
then_read_reached d s Spent first u l p known = absurd (not_spent p)
then_read_reached d s Deep first u l p known = absurd (not_deep p)

pub value_read_reaches : ReadingOfValueReaches
value_read_reaches t k d u l p known = then_read_reached d t (evaluate k d t) (λ v j q all. evaluation_reaches t k d v j q all) u l p known

pub normal_form_reaches : NormalFormReaches
normal_form_reaches t k d u l p known = value_read_reaches (bare t) k d u l p known
