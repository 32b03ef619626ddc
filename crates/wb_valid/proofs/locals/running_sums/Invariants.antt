use Rattle.std.proofs.Common.{◌≡◌, ◌++◌, drop}
use Rattle.wb_valid.specs.Locals.{running_sums}
use Rattle.wb_valid.proofs.locals.running_sums.Given as goal

abbrev pub invariant-loop-run : goal.invariant-loop-run
invariant-loop-run l = l.sums.items ++ running_sums l.sum (drop l.run-index l.runs) ≡ running_sums 0 l.runs
