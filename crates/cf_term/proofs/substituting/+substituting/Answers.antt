use Rattle.std.proofs.Common.{arith, ap, ◌∙◌}
use Rattle.cf_term.specs.Core.{depth, nil}
use Rattle.cf_term.specs.View.{tm_of, marked, listed}
use Rattle.cf_term.specs.Numbered.{places, terms}
use Rattle.cf_term.specs.Substitution.{substitute, ups, in_place}
use Rattle.cf_term.proofs.UnderBinders.{put_under}
use Rattle.cf_term.proofs.Walked.{substituted_again, seen_deep, depth_terms, not_past, one_more, all_made, substitute_mapped}
use Rattle.cf_term.proofs.substituting.+substituting.Goals as goal

pub below-returns-in_ok-node-in-None : goal.below-returns-in_ok-node-in-None
below-returns-in_ok-node-in-None t c =
    ap (marked c.t.inside.inserted) c.in_ok-node-in-None.ensures ∙
    substituted_again (ups c.args.depth (in_place c.args.at c.args.by.now)) c.t.inside.inserted (tm_of c.t.inside.node) (listed c.in_ok-parts-in-None.parts.items nil) c.in-None.ensures
    c.in_ok-parts-in-None.ensures.parts ∙
    ap (substitute (ups c.args.depth (in_place c.args.at c.args.by.now))) c.t.view_is

pub below_parts-below-requires : goal.below_parts-below-requires
below_parts-below-requires t c =
    let low = seen_deep (places (tm_of c.args.node.now)) (terms (tm_of c.args.node.now)) c.loop-i.i c.in-Some.p c.in-Some.ensures in
    (omega (arith, low, depth_terms (tm_of c.args.node.now), ap depth c.deref.ensures), tt)

pub below_parts-unreachable-requires : goal.below_parts-unreachable-requires
below_parts-unreachable-requires t c = not_past (places (tm_of c.args.node.now)) (terms (tm_of c.args.node.now)) c.loop-i.i (omega arith) c.in-None.ensures

pub below_parts-loop-i-preserved : goal.below_parts-loop-i-preserved
below_parts-loop-i-preserved t c =
    let u =
    c.in_ok-shared-in-Some.ensures ∙ c.in_ok-t-in-Some.ensures ∙
    put_under c.args.depth c.args.at c.in-Some.p.binds c.in_ok-deeper-in-Some.field-0 c.args.by.now c.deref.result.now c.in-Some.p.term.now.value c.in_ok-deeper-in-Some.ensures c.deref.ensures in
    rw c.in_ok-push-in-Some.ensures
    (one_more (λ n t. substitute (ups n (ups c.args.depth (in_place c.args.at c.args.by.now))) t) (places (tm_of c.args.node.now)) (terms (tm_of c.args.node.now)) c.loop-i.made.items c.loop-i.i c.in-Some.p
    c.in_ok-shared-in-Some.field-0 c.in-Some.ensures u c.loop-i.invariant)

pub below_parts-returns-clause-parts : goal.below_parts-returns-clause-parts
below_parts-returns-clause-parts t c =
    all_made (λ n t. substitute (ups n (ups c.args.depth (in_place c.args.at c.args.by.now))) t) (places (tm_of c.args.node.now)) (terms (tm_of c.args.node.now)) c.loop-i.made.items c.loop-i.i (omega arith) c.loop-i.invariant
    ∙ substitute_mapped (ups c.args.depth (in_place c.args.at c.args.by.now)) (places (tm_of c.args.node.now)) (terms (tm_of c.args.node.now))
