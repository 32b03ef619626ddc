use Rattle.cf_core_text.proofs.Steps.{then_added, restated, tail_of}
use Rattle.cf_core_text.proofs.Branched.{arms_first, bodies_first}
use Rattle.cf_core_text.proofs.branches.push_arms.Goals as goal

pub returns-in_ok-push_more_arms-in-len1-up : goal.returns-in_ok-push_more_arms-in-len1-up
returns-in_ok-push_more_arms-in-len1-up c =
    restated (then_added c.in_ok-push_arm-in-len1-up.ensures c.in_ok-push_more_arms-in-len1-up.ensures)
    (arms_first c.args.s.globals c.args.s.depth c.args.branches.now _ c.branch-item.result c.in-len1-up.len_at_least c.branch-item.is (tail_of c.args.branches.now))
    (bodies_first c.args.branches.now _ c.branch-item.result c.in-len1-up.len_at_least c.branch-item.is (tail_of c.args.branches.now))
