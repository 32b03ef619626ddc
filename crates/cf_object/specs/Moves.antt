-- The object machine as a machine that steps, for machines that follow it.
use Rattle.std.specs.Prelude.{ℕ, zero, suc, max}
use Rattle.cf_base.specs.declared.outcome.Outcome.{Outcome}
use Rattle.cf_simulation.specs.Simulation.{Move, Goes, Ends, Lost, Reach, At, Over, Dead}
use Rattle.cf_object.specs.Run.{Run, Stands}
use Rattle.cf_object.specs.Machine.{State, Next, After, Ended, Running, Stuck, step}
use Rattle.cf_object.specs.Machine as object

-- a step as a move
abbrev pub as_move : Next → Move State Outcome
as_move (object.Goes s) = Goes s
as_move (object.Ends o) = Ends o
as_move object.Lost = Lost

-- 1 where a computation variable is unfolded, jump or not, else 0
abbrev pub run_unfolds : Run → ℕ
run_unfolds (Stands jump g i) = 1
run_unfolds _ = 0

-- the weight of a state: the unfoldings in its step
abbrev pub object_unfolds : State → ℕ
object_unfolds s = run_unfolds s.focus

-- in a region of this many bytes
module _ (region : ℕ) where
  -- the machine
  abbrev pub object_step : State → Move State Outcome
  object_step s = as_move (step region s)

  -- where a run has come to, without its counts
  abbrev pub reached : After region → Reach State Outcome
  reached (Ended o calls peak) = Over o
  reached (Running s peak) = At s
  reached Stuck = Dead

  -- the greatest number of calls that are open in the states that n steps lead to
  abbrev pub most_open : (n : ℕ) → State → ℕ
  most_open zero s = 0
  most_open (suc n) s = elim (step region s) [ object.Goes t ↦ max t.calls_open (most_open n t) | object.Ends o ↦ 0 | object.Lost ↦ 0 ]
