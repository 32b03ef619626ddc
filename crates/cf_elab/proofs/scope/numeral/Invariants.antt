use Rattle.std.proofs.Common.{◌≡◌}
use Rattle.cf_term.specs.View.{tm_of}
use Rattle.cf_elab.specs.Forms.{numeral}
use Rattle.cf_elab.proofs.scope.numeral.Given as goal

abbrev pub invariant-loop-i : goal.invariant-loop-i
invariant-loop-i l = tm_of l.node ≡ numeral l._i
