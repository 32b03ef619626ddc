-- What the calls answer, against what the definitions give. Want of memory is free.
use Rattle.std.specs.Prelude.{◌≡◌, ℕ, Option, Result, Ok, Err}
use Rattle.cf_term.specs.Core.{Tm}
use Rattle.cf_term.specs.Evaluation.{Out, Spent, Deep, Outs, AllSpent, AllDeep}
use Rattle.cf_term.specs.Reductions.{Reaches}
use Rattle.cf_eval.specs.declared.answers.EvalEnd.{EvalEnd}
use Rattle.cf_eval.specs.declared.answers.EvalEnd.TheVariants as end

-- Ok is what is done, and each refusal is the same refusal
abbrev pub Answers : {X : Type 0} → Result X EvalEnd → (done : X → Out) → Out → Type 0
Answers (Ok x) done o = o ≡ done x
Answers (Err end.Spent) done o = o ≡ Spent
Answers (Err end.Deep) done o = o ≡ Deep
Answers (Err end.NoMemory) done o = Unit {0}

-- the same of parts
abbrev pub AnswersAll : {X : Type 0} → Result X EvalEnd → (done : X → Outs) → Outs → Type 0
AnswersAll (Ok x) done o = o ≡ done x
AnswersAll (Err end.Spent) done o = o ≡ AllSpent
AnswersAll (Err end.Deep) done o = o ≡ AllDeep
AnswersAll (Err end.NoMemory) done o = Unit {0}

-- u is reached from t by reductions, whatever variables are defined
abbrev pub IsReachedFrom : Tm → Tm → Type 0
IsReachedFrom t u = (known : ℕ → Option Tm) → Reaches known t u
