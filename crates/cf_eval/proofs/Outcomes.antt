-- What follows from an exact answer.
use Rattle.std.proofs.Common.{◌≡◌, ℕ, Option, Some, None, Result, Ok, Err, IfOk, ◌∙◌, ap}
use mathlib.Core.Path.{subst}
use Rattle.cf_term.specs.Closed.{IsClosed}
use Rattle.cf_term.specs.Core.{Tm}
use Rattle.cf_term.specs.Evaluation.{Out, Done}
use Rattle.cf_term.specs.NormalForms.{read_back, then_read_back}
use Rattle.cf_reduction.specs.Laws.{ReadingReaches, ReductionsStayClosed}
use Rattle.cf_eval.specs.Answers.{Answers}
use Rattle.cf_eval.specs.declared.answers.EvalEnd.{EvalEnd}

-- what holds of each answer of a definition holds of what the code answers
pub answered : {X : Type 0} (r : Result X EvalEnd) (done : X → Out) {o : Out} (P : X → Type 0) → Answers r done o → ((x : X) → o ≡ done x → P x) → IfOk r P
answered (Ok x) done P a f = f x a
answered (Err e) done P a f = tt

none_some : {A : Type 0} (v : Tm) → None ≡ Some v → A
none_some v e = absurd (subst (λ (x : Option Tm). elim x as (λ _. Type 0) [ None ↦ Unit {0} | Some t ↦ ⊥ ]) e tt)

-- what is read back has no variable that the value has not
pub read_closed : ReadingReaches → ReductionsStayClosed → (n k d : ℕ) (v t : Tm) (l : ℕ) → read_back k d v ≡ Done t l → IsClosed n v → IsClosed n t
read_closed reaches stays n k d v t l e c = stays (λ _. None) n v t (λ i u q. none_some u q) (reaches v k d t l e (λ _. None)) c

-- an evaluation, and what is read back of its value
pub read_after : (d : ℕ) (o : Out) (v t : Tm) (k l : ℕ) → o ≡ Done v k → read_back k d v ≡ Done t l → then_read_back d o ≡ Done t l
read_after d o v t k l e f = ap (then_read_back d) e ∙ f
