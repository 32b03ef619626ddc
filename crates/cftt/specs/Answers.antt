-- What holds after the call, by its words and by what is known of the streams before and after it. A refusal that comes later adds a case, and rewords none.
use Rattle.std.specs.Prelude.{◌≡◌, ℕ, List, Result, Ok, Err}
use Rattle.std.specs.Io.KnownBytes.{Appends}
use Rattle.cf_base.specs.Causes.{Rose, TakesFront}
use Rattle.cf_diag.specs.Refusals.{refusal_text}
use Rattle.cf_diag.specs.declared.refusal.Refusal.{Refusal}
use Rattle.cf_diag.specs.declared.refusal.Refusal.TheVariants.{Usage, ReadFault, TooLong, WriteFault, NoMemory}
use Rattle.cf_words.specs.Lines.{IsLine, IsUsage}
use Rattle.cf_words.specs.declared.command.Command.{Command}
use Rattle.cftt.specs.Commands.{Refuses, Writes, most_bytes}
use Rattle.cftt.specs.Moments.{Ends, Errors, HasInput, IsTooLong, IsWritten}
use Rattle.cftt.specs.declared.top.Report.{Report}

-- the words are the line of a command of which this holds
abbrev pub OnLine : List (List ℕ) → (Command → Type 0) → Type 0
OnLine words P = (c : Command) × IsLine words c × P c

-- the command ended well: the input was read to its end, all that it writes was taken, and no fault was counted
pub record IsDone (words : List (List ℕ)) (before after : Ends) (report : Report) : Type 0 where
  pub command : Command
  pub line : IsLine words command
  pub input : List ℕ
  pub whole : HasInput (most_bytes command) before after input
  pub output : List ℕ
  pub writes : Writes command input report output
  pub taken : Appends before.taken after.taken output
  pub counted : (after.read_faults ≡ before.read_faults) × (after.write_faults ≡ before.write_faults)

-- the input was read to its end, and the command refuses it
pub record IsRefused (c : Command) (before after : Ends) (r : Refusal) : Type 0 where
  pub input : List ℕ
  pub whole : HasInput (most_bytes c) before after input
  pub why : Refuses c input r

-- the cause of each refusal; want of memory has none
abbrev pub Caused : List (List ℕ) → (before after : Ends) → Refusal → Type 0
Caused words before after (Usage i) = IsUsage words i
Caused words before after ReadFault = OnLine words (λ c. Rose before.read_faults after.read_faults)
Caused words before after TooLong = OnLine words (λ c. IsTooLong (most_bytes c) before after)
Caused words before after WriteFault = OnLine words (λ c. Rose before.write_faults after.write_faults)
Caused words before after NoMemory = Unit {0}
-- all others are of what the input says
Caused words before after r = OnLine words (λ c. IsRefused c before after r)

-- a front of what the command writes was taken
pub record IsCutOff (c : Command) (before after : Ends) : Type 0 where
  pub input : List ℕ
  pub whole : HasInput (most_bytes c) before after input
  pub report : Report
  pub output : List ℕ
  pub writes : Writes c input report output
  pub taken : TakesFront before.taken after.taken output

-- what a refusal leaves in the output: nothing new, but where the write failed
abbrev pub Leaves : List (List ℕ) → (before after : Ends) → Refusal → Type 0
Leaves words before after WriteFault = OnLine words (λ c. IsCutOff c before after)
Leaves words before after r = after.taken ≡ before.taken

-- this holds where the refusal is Usage
abbrev pub OnUsage : Refusal → Type 0 → Type 0
OnUsage (Usage i) P = P
OnUsage _ P = Unit {0}

-- the refusal was told: its line was written to the error stream
abbrev pub IsTold : (before after : Errors) → Refusal → Type 0
IsTold before after r = IsWritten before after (refusal_text r)

-- what holds of input and output alone, before a refusal is told
abbrev pub IsAnswered : {S : Type 0} → List (List ℕ) → (input input' : S) → (before after : Ends) → Result Report Refusal → Type 0
IsAnswered words input input' before after (Ok report) = IsDone words before after report
IsAnswered words input input' before after (Err r) = Caused words before after r × Leaves words before after r × OnUsage r (input' ≡ input)

-- ---- status

-- 2 for words that are no command line, else 1
abbrev pub status_of_refusal : Refusal → ℕ
status_of_refusal (Usage i) = 2
status_of_refusal _ = 1

-- what the process ends with
abbrev pub status_of : Result Report Refusal → ℕ
status_of (Ok report) = report.code
status_of (Err e) = status_of_refusal e
