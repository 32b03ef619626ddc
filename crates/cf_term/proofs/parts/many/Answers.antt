use Rattle.std.proofs.Common.{ap}
use Rattle.cf_term.specs.Core.{nil}
use Rattle.cf_term.proofs.Places.{listed_some, listed_none}
use Rattle.cf_term.proofs.parts.many.Goals as goal

pub returns-in-Some : goal.returns-in-Some
returns-in-Some c =
    let at = rw c.deref.ensures.value at c.in-Some.ensures.lookup in
    rw (listed_some c.args.ts.now.items nil c.args.i c.in-Some.t.now at.3.0 at.1) (c.here.ensures.0, c.here.ensures.1, ap (λ r. r.value) c.here.ensures.2)

pub returns-in-None : goal.returns-in-None
returns-in-None c =
    let at = rw c.deref.ensures.value at c.in-None.ensures.lookup in
    rw (listed_none c.args.ts.now.items c.args.i at.3) tt
