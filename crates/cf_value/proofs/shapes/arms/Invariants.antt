use Rattle.std.proofs.Common.{◌≡◌, ◌++◌, drop}
use Rattle.cf_term.specs.View.{heads}
use Rattle.cf_value.specs.Heads.{branches}
use Rattle.cf_value.proofs.shapes.arms.Given as goal

abbrev pub invariant-loop-b : goal.invariant-loop-b
invariant-loop-b l = branches l.made.items ++ heads (drop l.b-index l.fn.bs.items) ≡ heads l.fn.bs.items
