use Rattle.cf_core_text.proofs.Steps.{begins, goes_on, closes, then_added, restated}
use Rattle.cf_core_text.proofs.Branched.{arms_next, arms_end, bodies_next, bodies_end}
use Rattle.cf_core_text.proofs.branches.push_more_arms.Goals as goal

pub loop-branch-init : goal.loop-branch-init
loop-branch-init c = begins _ _ _

pub loop-branch-preserved : goal.loop-branch-preserved
loop-branch-preserved c =
    goes_on _ _ c.loop-branch.invariant (then_added c.in_ok-push_all.ensures c.in_ok-push_arm.ensures)
    (arms_next c.args.s.globals c.args.s.depth c.args.branches.now c.loop-branch.branch-index c.branch-item.result c.loop-branch-test.true c.branch-item.is)
    (bodies_next c.args.branches.now c.loop-branch.branch-index c.branch-item.result c.loop-branch-test.true c.branch-item.is)

pub returns : goal.returns
returns c =
    closes c.loop-branch.invariant
    (restated c.in_ok-push_all-2.ensures (arms_end c.args.s.globals c.args.s.depth c.args.branches.now c.loop-branch.branch-index c.loop-branch-test.false)
    (bodies_end c.args.branches.now c.loop-branch.branch-index c.loop-branch-test.false))
