use Rattle.std.proofs.Common.{◌≡◌, ◌≤◌, ◌+◌, ◌++◌, length, drop}
use Rattle.wb_syntax.specs.Syntax.{expanded}
use Rattle.wb_syntax.specs.Execute.{zeros}
use Rattle.wb_state.specs.Frames.{count_of}
use Rattle.wb_control.proofs.calls.add_locals.Given as goal

abbrev pub invariant-loop-run : goal.invariant-loop-run
invariant-loop-run l = record {
  current : l.locals.current ++ zeros (expanded (drop l.run-index l.runs)) ≡ l.fn.locals.current ++ zeros (expanded l.runs);
  outer : l.locals.outer ≡ l.fn.locals.outer;
  room : l.locals.room ≡ l.fn.locals.room;
  fits : count_of l.locals + length (expanded (drop l.run-index l.runs)) ≤ l.locals.room;
}
