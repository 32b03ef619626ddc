use Rattle.std.proofs.Common.{refl}
use Rattle.cf_term.proofs.Places.{branch_some, branch_none}
use Rattle.cf_term.proofs.parts.branch.Goals as goal

pub returns-in-Some : goal.returns-in-Some
returns-in-Some c =
    let at = rw c.deref.ensures.value at c.in-Some.ensures.lookup in
    rw (branch_some c.args.bs.now.items c.args.i c.in-Some.b.now at.3.0 at.1) (c.from.ensures, refl, refl)

pub returns-in-None : goal.returns-in-None
returns-in-None c =
    let at = rw c.deref.ensures.value at c.in-None.ensures.lookup in
    rw (branch_none c.args.bs.now.items c.args.i at.3) tt
