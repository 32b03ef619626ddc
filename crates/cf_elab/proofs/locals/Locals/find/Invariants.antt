use Rattle.std.proofs.Common.{◌≡◌, ℕ, ◌<◌, false, None, get_or}
use Rattle.cf_elab.specs.Scope.{is_named}
use Rattle.cf_elab.proofs.locals.Locals.find.Given as goal

-- no binder that was looked at has the name
abbrev pub invariant-loop-i : goal.invariant-loop-i
invariant-loop-i l = (k : ℕ) → k < l.i → is_named l.name (get_or l.self k None) ≡ false
