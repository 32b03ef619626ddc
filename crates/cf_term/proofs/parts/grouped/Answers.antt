use Rattle.std.proofs.Common.{◌/◌, arith, ap, refl, length}
use Rattle.cf_term.specs.Core.{nil, cons}
use Rattle.cf_term.proofs.Places.{group_type, group_value, group_last, group_none}
use Rattle.cf_term.proofs.parts.grouped.Goals as goal

pub returns-then-i-eq0 : goal.returns-then-i-eq0
returns-then-i-eq0 c =
    let at = rw c.deref.ensures.value at c.in-Some.ensures.lookup in
    rw (group_type (length c.args.ds.now.items) c.args.ds.now.items (cons c.args.term.now.value nil) c.args.i (c.args.i / 2) c.in-Some.d.now (omega arith) at.3.0 at.1)
    (c.here.ensures.0, c.here.ensures.1, ap (λ r. r.value) c.here.ensures.2)

pub returns-else-i-eq0 : goal.returns-else-i-eq0
returns-else-i-eq0 c =
    let at = rw c.deref.ensures.value at c.in-Some.ensures.lookup in
    rw (group_value (length c.args.ds.now.items) c.args.ds.now.items (cons c.args.term.now.value nil) c.args.i (c.args.i / 2) c.in-Some.d.now (omega arith) at.3.0 at.1)
    (omega arith, refl, refl)

pub returns-then-i-len : goal.returns-then-i-len
returns-then-i-len c =
    rw (group_last (length c.args.ds.now.items) c.args.ds.now.items c.args.term.now.value c.args.i (omega arith)) (omega arith, refl, refl)

pub returns-else-i-len : goal.returns-else-i-len
returns-else-i-len c =
    let at = rw c.deref.ensures.value at c.in-None.ensures.lookup in
    rw (group_none (length c.args.ds.now.items) c.args.ds.now.items c.args.term.now.value c.args.i (omega (arith, at.3))) tt
