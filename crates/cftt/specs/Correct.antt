-- What the program promises of its top call: of the words, of what is known of the streams before and after it, and of its answer.
use Rattle.std.specs.Prelude.{◌≡◌, ℕ, List, IfErr, IfOk, OnOk, Result}
use Rattle.cf_diag.specs.declared.refusal.Refusal.{Refusal}
use Rattle.cftt.specs.Answers.{Caused, IsDone, IsTold, Leaves, OnUsage}
use Rattle.cftt.specs.Moments.{Moment}
use Rattle.cftt.specs.declared.top.Report.{Report}

pub record Correct {S : Type 0} (words : List (List ℕ)) (before after : Moment S) (result : Result Report Refusal) : Type 0 where
  -- where it answers Ok, the input was read to its end, and all that the command of the words writes for it was taken
  pub done : IfOk result (λ report. IsDone words before.ends after.ends report)
  -- each refusal has its cause
  pub cause : IfErr result (λ refusal. Caused words before.ends after.ends refusal)
  -- after a refusal the output has taken nothing new, but a front of what the command writes where a write failed
  pub leaves : IfErr result (λ refusal. Leaves words before.ends after.ends refusal)
  -- on words that are no command line the input is as it was
  pub untouched : IfErr result (λ refusal. OnUsage refusal (after.input ≡ before.input))
  -- the line of the refusal was written to the error stream
  pub told : IfErr result (λ refusal. IsTold before.errors after.errors refusal)
  -- where it answers Ok, the error stream took nothing
  pub silent : OnOk result (after.errors.taken ≡ before.errors.taken)
