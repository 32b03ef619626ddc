-- Any number of reductions, in a term and in parts.
use Rattle.std.specs.Prelude.{ℕ, List, Option}
use Rattle.cf_term.specs.Core.{Tm, node, Tms, cons, Head, Part, parts, first_part, rest_parts}
use Rattle.cf_term.specs.Reductions.{in_part, ReducesOne, this_part, later_part, Reaches, there, after, beneath}

-- any number of reductions in parts
pub data ReachesAll (known : ℕ → Option Tm) (ps : List Part) : Tms → Tms → Type 0 where
  all_there : {ts : Tms} → ReachesAll known ps ts ts
  all_after : {ts us vs : Tms} → ReducesOne known ps ts us → ReachesAll known ps us vs → ReachesAll known ps ts vs

pub in_turn : {known : ℕ → Option Tm} {t u v : Tm} → Reaches known t u → Reaches known u v → Reaches known t v
in_turn there s = s
in_turn (after r q) s = after r (in_turn q s)

pub all_in_turn : {known : ℕ → Option Tm} {ps : List Part} {t u v : Tms} → ReachesAll known ps t u → ReachesAll known ps u v → ReachesAll known ps t v
all_in_turn all_there s = s
all_in_turn (all_after r q) s = all_after r (all_in_turn q s)

pub in_parts : {known : ℕ → Option Tm} (h : Head) {ts us : Tms} → ReachesAll known (parts h) ts us → Reaches known (node h ts) (node h us)
in_parts h all_there = there
in_parts h (all_after r q) = after (in_part r) (in_parts h q)

pub in_first : {known : ℕ → Option Tm} (ps : List Part) {t v : Tm} (ts : Tms) → Reaches (beneath (first_part ps).binds known) t v → ReachesAll known ps (cons t ts) (cons v ts)
in_first ps ts there = all_there
in_first ps ts (after r q) = all_after (this_part r) (in_first ps ts q)

pub in_rest : {known : ℕ → Option Tm} (ps : List Part) (t : Tm) {ts vs : Tms} → ReachesAll known (rest_parts ps) ts vs → ReachesAll known ps (cons t ts) (cons t vs)
in_rest ps t all_there = all_there
in_rest ps t (all_after r q) = all_after (later_part r) (in_rest ps t q)
