use Rattle.std.proofs.Common.{drop}
use Rattle.cf_term.specs.Core.{depth_all}
use Rattle.cf_term.specs.View.{bodies}
use Rattle.cf_core_text.proofs.Steps.{Continues}
use Rattle.cf_core_text.proofs.Branched.{further_arms}
use Rattle.cf_core_text.proofs.branches.push_more_arms.Given as goal

abbrev pub invariant-loop-branch : goal.invariant-loop-branch
invariant-loop-branch l =
    Continues l.fn.items.items l.items.items (further_arms l.s.globals l.s.depth (drop l.branch-index l.branches)) (depth_all (bodies (drop l.branch-index l.branches)))
    (further_arms l.s.globals l.s.depth l.branches)
    (depth_all (bodies l.branches))
