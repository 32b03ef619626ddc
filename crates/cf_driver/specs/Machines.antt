-- What is answered of a machine.
use Rattle.std.specs.Prelude.{◌≡◌, ℕ, Result, Ok, Err}
use Rattle.wb_syntax.specs.declared.syntax.Module.{Module}
use Rattle.wb_syntax.specs.Runs.{store_at_first}
use Rattle.wb_plain.specs.declared.outcome.TrapKind.{TrapKind}
use Rattle.wb_plain.specs.declared.outcome.TrapKind.TheVariants as kind
use Rattle.wb_machine.specs.Model.{Machine-model}
use Rattle.wb_machine.specs.declared.ends.MachineEnd.{MachineEnd}
use Rattle.wb_machine.specs.declared.ends.MachineEnd.TheVariants as end
use Rattle.cf_diag.specs.declared.refusal.Refusal.{Refusal}
use Rattle.cf_diag.specs.declared.refusal.Refusal.TheVariants.{NoMain, StepLimit, StackFull, Stuck}
use Rattle.cf_driver.specs.declared.ends.Line.{Line}
use Rattle.cf_driver.specs.declared.ends.Line.TheVariants.{Returned, Trapped}
use Rattle.cf_driver.specs.declared.ends.Word.{Word}
use Rattle.cf_driver.specs.declared.ends.Word.TheVariants as words
use Rattle.cf_driver.specs.Ends.{unreachable_at}
use Rattle.cf_driver.specs.Executed.{IsCallable}

-- the machine at its beginning, of a module whose main takes so many arguments
abbrev pub IsOpenedFor : Module → (words count : ℕ) → Machine-model → Type 0
IsOpenedFor m words count x = (x ≡ record { module_ = m; words = words; store = store_at_first m }) × IsCallable m count

-- a trap, where this status word is left
abbrev pub word_at : TrapKind → (status : ℕ) → Word
word_at kind.Unreachable status = unreachable_at status
word_at kind.DivideByZero status = words.DivideByZero
word_at kind.Overflow status = words.Overflow
word_at kind.OutOfBounds status = words.OutOfBounds

-- the line of an end that leaves this status word, or why it has none
abbrev pub answer_of : MachineEnd → (status words limit : ℕ) → Result Line Refusal
answer_of (end.Returned z) status words limit = Ok (Returned z)
answer_of (end.Trap k) status words limit = Ok (Trapped (word_at k status))
answer_of end.StepLimit status words limit = Err (StepLimit limit)
answer_of end.StackFull status words limit = Err (StackFull words)
answer_of end.Stuck status words limit = Err Stuck
answer_of end.NoMain status words limit = Err NoMain
