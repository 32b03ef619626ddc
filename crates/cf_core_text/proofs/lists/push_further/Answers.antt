use Rattle.cf_core_text.proofs.Steps.{begins, goes_on, ends}
use Rattle.cf_core_text.proofs.Separated.{further_next, depth_next, further_end, depth_end}
use Rattle.cf_core_text.proofs.lists.push_further.Goals as goal

pub loop-t-init : goal.loop-t-init
loop-t-init c = begins _ _ _

pub loop-t-preserved : goal.loop-t-preserved
loop-t-preserved c =
    goes_on _ _ c.loop-t.invariant c.in_ok-push_all.ensures
    (further_next c.args.s.globals c.args.s.depth c.args.ts.now c.loop-t.t-index c.t-item.result c.loop-t-test.true c.t-item.is)
    (depth_next c.args.ts.now c.loop-t.t-index c.t-item.result c.loop-t-test.true c.t-item.is)

pub returns : goal.returns
returns c =
    ends c.loop-t.invariant (further_end c.args.s.globals c.args.s.depth c.args.ts.now c.loop-t.t-index c.loop-t-test.false)
    (depth_end c.args.ts.now c.loop-t.t-index c.loop-t-test.false)
