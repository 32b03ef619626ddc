use Rattle.std.proofs.Common.{◌≡◌, length}
use Rattle.cf_term.specs.View.{listed}
use Rattle.cf_elab.specs.Steps.{MakesHoles}
use Rattle.cf_elab.proofs.scope.new_holes.Given as goal

abbrev pub invariant-loop-i : goal.invariant-loop-i
invariant-loop-i l = MakesHoles l._i l.initial.holes (listed l.parts.items) l.holes × (length l.parts.items ≡ l._i)
