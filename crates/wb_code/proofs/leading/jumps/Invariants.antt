use Rattle.std.proofs.Common.{◌≤◌, drop, length}
use Rattle.wb_code.proofs.Passed.{IsPassed}
use Rattle.wb_code.proofs.leading.jumps.Given as goal

abbrev pub invariant-loop-at : goal.invariant-loop-at
invariant-loop-at l = record {
  within : l.at ≤ length l.fn.body;
  passed : IsPassed l.fn.body (drop l.at l.fn.body) l.outer l.found;
}

abbrev pub decreases-loop-at : goal.decreases-loop-at
decreases-loop-at l = l.at
