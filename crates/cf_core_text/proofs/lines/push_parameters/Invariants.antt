use Rattle.std.proofs.Common.{◌≡◌, ◌-◌, ◌++◌}
use Rattle.cf_core_text.specs.Lines.{parameters}
use Rattle.cf_core_text.proofs.lines.push_parameters.Given as goal

abbrev pub invariant-loop-k : goal.invariant-loop-k
invariant-loop-k l = l.line.items ++ parameters l.k (l.count - l.k) ≡ l.fn.line.items ++ parameters 0 l.count
