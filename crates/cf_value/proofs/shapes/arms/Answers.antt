use Rattle.std.proofs.Common.{arith, ap, ◌∙◌, sym, ◌++◌, append_assoc}
use Rattle.cf_term.specs.Core.{CaseH}
use Rattle.cf_value.specs.Heads.{branches}
use Rattle.cf_value.proofs.Built.{branches_grown, heads_next, arms_all}
use Rattle.cf_value.proofs.shapes.arms.Goals as goal

pub loop-b-preserved : goal.loop-b-preserved
loop-b-preserved c =
    let step = heads_next c.args.bs.now.items c.deref-b-items.result.now c.loop-b.b-index c.b-item.result c.deref-b-items.ensures.value c.loop-b-test.true c.b-item.is in
    rw c.in_ok-push.ensures (rw (branches_grown, append_assoc) (ap (λ hs. branches c.loop-b.made.items ++ hs) (sym step) ∙ c.loop-b.invariant))

pub returns : goal.returns
returns c = ap CaseH (arms_all c.args.bs.now.items c.loop-b.made.items c.loop-b.b-index (omega arith) c.loop-b.invariant)
