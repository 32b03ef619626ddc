use Rattle.std.proofs.Common.{◌≡◌, ◌≤◌, ◌+◌, ◌++◌, length, drop}
use Rattle.wb_state.specs.Frames.{count_of}
use Rattle.wb_control.specs.Calls.{words_as}
use Rattle.wb_control.proofs.beginning.add_arguments.Given as goal

abbrev pub invariant-loop-number : goal.invariant-loop-number
invariant-loop-number l = record {
  current : l.locals.current ++ words_as (drop l.number-index l.args) ≡ l.fn.locals.current ++ words_as l.args;
  outer : l.locals.outer ≡ l.fn.locals.outer;
  room : l.locals.room ≡ l.fn.locals.room;
  fits : count_of l.locals + length (drop l.number-index l.args) ≤ l.locals.room;
}
