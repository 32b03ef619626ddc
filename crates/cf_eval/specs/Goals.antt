-- What the code goes on to after a step.
use Rattle.std.specs.Prelude.{ℕ, Bool, true, false, Option, Some, None}
use Rattle.cf_term.specs.Core.{Tm}
use Rattle.cf_term.specs.Same.{bare}
use Rattle.cf_term.specs.Substitution.{substitute, ups}
use Rattle.cf_term.specs.Evaluation.{Out, Done, evaluate}
use Rattle.cf_value.specs.Stands.{term_at, env_at, with_levels}
use Rattle.cf_value.specs.declared.values.ValuePart.{ValuePart}
use Rattle.cf_value.specs.declared.values.ValuePart.TheVariants as part
use Rattle.cf_eval.specs.Redexes.{Goal, opened, value, case_of, number_case, list_case, kept_of}
use Rattle.cf_eval.specs.declared.stepping.Next.{Next}
use Rattle.cf_eval.specs.declared.stepping.Next.TheVariants as next

abbrev pub goal_of : Next → Goal
goal_of (next.Opened f u) = opened (kept_of f.now) u.now.value
goal_of (next.Value v) = value v.now.value
goal_of (next.Case t) = case_of (kept_of t.now)
goal_of (next.Number p z s m) = number_case (kept_of p.now) (kept_of z.now) (kept_of s.now) m.now.value
goal_of (next.List p n c x y) = list_case (kept_of p.now) (kept_of n.now) (kept_of c.now) x.now.value y.now.value

abbrev pub seen_goal : Option Next → Option Goal
seen_goal None = None
seen_goal (Some n) = Some (goal_of n)

-- a part, which was evaluated under b variables of the levels from l on, or kept
abbrev pub part_term : (at : ℕ → ℕ) → (l b : ℕ) → ValuePart → Tm
part_term at l b (part.Ready v) = term_at (with_levels b l at) v.value
part_term at l b (part.Kept f) = substitute (ups b (env_at at f.env)) (bare f.body.value)

-- a part is evaluated, or kept
abbrev pub part_out : (kept : Bool) → (k d : ℕ) → Tm → Out
part_out true k d t = Done t k
part_out false k d t = evaluate k d t
