-- Normal forms: a term is evaluated, and its value is written with the steps that are left.
use Rattle.std.specs.Prelude.{ℕ, zero, suc, true, false, List}
use Rattle.cf_term.specs.Core.{Tm, var, node, Tms, nil, cons, Head, Part, parts, first_part, rest_parts}
use Rattle.cf_term.specs.Same.{bare}
use Rattle.cf_term.specs.Evaluation.{Out, Done, Spent, Deep, Outs, AllDone, AllSpent, AllDeep, and_then, evaluate}

-- a kept part that was evaluated, written with the steps that are left, and then other parts
abbrev pub write_then : (write : ℕ → Tm → Out) → Out → (ℕ → Outs) → Outs
write_then write (Done v k) rest = and_then (write k v) rest
write_then write Spent rest = AllSpent
write_then write Deep rest = AllDeep

-- the parts in written order; a kept part is evaluated first, under its binder, at the full nest
abbrev pub write_all_by : (write : ℕ → Tm → Out) → (k d : ℕ) → List Part → Tms → Outs
write_all_by write k d ps nil = AllDone nil k
write_all_by write k d ps (cons t ts) =
    elim (first_part ps).kept [
      | true ↦ write_then write (evaluate k d t) (λ l. write_all_by write l d (rest_parts ps) ts)
      | false ↦ and_then (write k t) (λ l. write_all_by write l d (rest_parts ps) ts)
    ]

-- a form with its parts written
abbrev pub written : Head → Outs → Out
written h (AllDone ts k) = Done (node h ts) k
written h AllSpent = Spent
written h AllDeep = Deep

-- with at most n nodes on a way down
abbrev pub write_within : (n d k : ℕ) → Tm → Out
write_within zero d k v = Spent
write_within (suc n) d zero v = Spent
write_within (suc n) d (suc k) (var i) = Done (var i) k
write_within (suc n) d (suc k) (node h ts) = written h (write_all_by (write_within n d) k d (parts h) ts)

-- a value is written, each node for one step that is taken before its parts are written
abbrev pub read_back : (k d : ℕ) → Tm → Out
read_back k d v = write_within k d k v

-- an evaluation, and its value written with the steps that it left
abbrev pub then_read_back : (d : ℕ) → Out → Out
then_read_back d (Done v k) = read_back k d v
then_read_back d Spent = Spent
then_read_back d Deep = Deep

-- the normal form of a term in which no defined variable stands, marks aside
abbrev pub normal_form : (k d : ℕ) → Tm → Out
normal_form k d t = then_read_back d (evaluate k d (bare t))
