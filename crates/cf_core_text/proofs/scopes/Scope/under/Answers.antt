use Rattle.std.proofs.Common.{refl}
use Rattle.cf_core_text.proofs.Depths.{under_sum}
use Rattle.cf_core_text.proofs.scopes.Scope.under.Goals as goal

pub returns-in-Some : goal.returns-in-Some
returns-in-Some c =
    let e = c.in-Some.ensures.1 in
    rw (under_sum c.args.self.depth c.args.names, e) refl
