use Rattle.std.proofs.Common.{arith}
use Rattle.cf_value.proofs.Shared.{seen_next, one_shared, all_shared}
use Rattle.cf_value.proofs.copying.shared_parts.Goals as goal

pub loop-p-preserved : goal.loop-p-preserved
loop-p-preserved c =
    let next = seen_next c.args.parts.now.items c.deref-p-items.result.now c.loop-p.p-index c.p-item.result c.deref-p-items.ensures.value c.loop-p-test.true c.p-item.is in
    rw c.in_ok-push.ensures (one_shared c.args.parts.now.items c.loop-p.made.items c.loop-p.p-index c.p-item.result c.in_ok-share.field-0 _ next c.in_ok-share.ensures c.loop-p.invariant)

pub returns : goal.returns
returns c = all_shared c.args.parts.now.items c.loop-p.made.items c.loop-p.p-index (omega arith) c.loop-p.invariant
