-- What writing a part gives.
use Rattle.std.specs.Prelude.{ℕ, Bool, true, false}
use Rattle.cf_term.specs.Core.{Tm, var, node, parts}
use Rattle.cf_term.specs.Evaluation.{Out, Done, Spent, Deep, evaluate}
use Rattle.cf_term.specs.NormalForms.{write_all_by, write_within, written}
use Rattle.cf_value.specs.declared.values.ValuePart.{ValuePart}
use Rattle.cf_value.specs.declared.values.ValuePart.TheVariants as part

abbrev pub is_kept : ValuePart → Bool
is_kept (part.Ready v) = false
is_kept (part.Kept f) = true

-- what was evaluated is written with the steps that are left
abbrev pub then_written : (n d : ℕ) → Out → Out
then_written n d (Done v l) = write_within n d l v
then_written n d Spent = Spent
then_written n d Deep = Deep

-- a part is written; one that was kept is evaluated first
abbrev pub part_written : (kept : Bool) → (n d k : ℕ) → Tm → Out
part_written true n d k t = then_written n d (evaluate k d t)
part_written false n d k t = write_within n d k t

-- a form whose own step is taken
abbrev pub form_written : (n d k : ℕ) → Tm → Out
form_written n d k (var i) = Done (var i) k
form_written n d k (node h ts) = written h (write_all_by (write_within n d) k d (parts h) ts)
