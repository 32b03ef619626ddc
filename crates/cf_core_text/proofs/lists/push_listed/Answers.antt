use Rattle.cf_core_text.proofs.Steps.{then_added, restated, tail_of}
use Rattle.cf_core_text.proofs.Separated.{listed_first, depth_first}
use Rattle.cf_core_text.proofs.lists.push_listed.Goals as goal

pub returns-in_ok-push_further-in-len1-up : goal.returns-in_ok-push_further-in-len1-up
returns-in_ok-push_further-in-len1-up c =
    restated (then_added c.in_ok-push_all-in-len1-up.ensures c.in_ok-push_further-in-len1-up.ensures)
    (listed_first c.args.s.globals c.args.s.depth c.args.ts.now _ c.t-item.result c.in-len1-up.len_at_least c.t-item.is (tail_of c.args.ts.now))
    (depth_first c.args.ts.now _ c.t-item.result c.in-len1-up.len_at_least c.t-item.is (tail_of c.args.ts.now))
