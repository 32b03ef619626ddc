use Rattle.std.proofs.Common.{arith}
use Rattle.cf_core_text.proofs.Steps.{then_added, restated}
use Rattle.cf_core_text.proofs.Branched.{head, body, arm_joined}
use Rattle.cf_core_text.proofs.branches.push_arm.Goals as goal

pub returns : goal.returns
returns c =
    restated (then_added (then_added c.in_ok-push_all.ensures c.in_ok-push_names.ensures) c.in_ok-push_all-2.ensures)
    (rw c.in_ok-inner.ensures (arm_joined c.args.s.globals c.args.s.depth (head c.args.branch.now) (body c.args.s.globals c.args.s.depth c.args.branch.now)))
    (omega arith)
