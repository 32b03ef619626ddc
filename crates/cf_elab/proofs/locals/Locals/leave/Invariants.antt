use Rattle.std.proofs.Common.{◌≡◌, drop}
use Rattle.cf_elab.proofs.locals.Locals.leave.Given as goal

abbrev pub invariant-loop-i : goal.invariant-loop-i
invariant-loop-i l = l.self ≡ drop l._i l.initial.self
