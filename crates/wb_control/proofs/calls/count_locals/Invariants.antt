use Rattle.std.proofs.Common.{◌≡◌, ◌≤◌, ◌+◌, ◌-◌, ◌^◌, length, drop}
use Rattle.std.specs.Prelude.{min}
use Rattle.wb_syntax.specs.Syntax.{expanded}
use Rattle.wb_control.proofs.calls.count_locals.Given as goal

abbrev pub invariant-loop-run : goal.invariant-loop-run
invariant-loop-run l = record {
  most : l.count ≤ 2 ^ 64 - 1;
  rest : min (l.count + length (expanded (drop l.run-index l.runs))) (2 ^ 64 - 1) ≡ min (length (expanded l.runs)) (2 ^ 64 - 1);
}
