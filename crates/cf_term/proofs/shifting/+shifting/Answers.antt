use Rattle.std.proofs.Common.{arith, ap, ◌∙◌}
use Rattle.cf_term.specs.Core.{depth, nil}
use Rattle.cf_term.specs.View.{tm_of, marked, listed}
use Rattle.cf_term.specs.Numbered.{places, terms}
use Rattle.cf_term.specs.Substitution.{rename, lifts, skip}
use Rattle.cf_term.proofs.UnderBinders.{raised_under}
use Rattle.cf_term.proofs.Walked.{renamed_again, seen_deep, depth_terms, not_past, one_more, all_made, rename_mapped}
use Rattle.cf_term.proofs.shifting.+shifting.Goals as goal

pub raise-returns-in_ok-node-in-None : goal.raise-returns-in_ok-node-in-None
raise-returns-in_ok-node-in-None t c =
    ap (marked c.t.inside.inserted) c.in_ok-node-in-None.ensures ∙
    renamed_again (skip c.args.from c.args.by) c.t.inside.inserted (tm_of c.t.inside.node) (listed c.in_ok-parts-in-None.parts.items nil) c.in-None.ensures c.in_ok-parts-in-None.ensures.parts ∙
    ap (rename (skip c.args.from c.args.by)) c.t.view_is

pub raise_parts-raise-requires : goal.raise_parts-raise-requires
raise_parts-raise-requires t c =
    let low = seen_deep (places (tm_of c.args.node.now)) (terms (tm_of c.args.node.now)) c.loop-i.i c.in-Some.p c.in-Some.ensures in
    (omega (arith, low, depth_terms (tm_of c.args.node.now), ap depth c.deref.ensures), tt)

pub raise_parts-unreachable-requires : goal.raise_parts-unreachable-requires
raise_parts-unreachable-requires t c = not_past (places (tm_of c.args.node.now)) (terms (tm_of c.args.node.now)) c.loop-i.i (omega arith) c.in-None.ensures

pub raise_parts-loop-i-preserved : goal.raise_parts-loop-i-preserved
raise_parts-loop-i-preserved t c =
    let u =
    c.in_ok-shared-in-Some.ensures ∙ c.in_ok-t-in-Some.ensures ∙
    raised_under c.args.from c.args.by c.in-Some.p.binds c.in_ok-deeper-in-Some.field-0 c.deref.result.now c.in-Some.p.term.now.value c.in_ok-deeper-in-Some.ensures c.deref.ensures in
    rw c.in_ok-push-in-Some.ensures
    (one_more (λ n t. rename (lifts n (skip c.args.from c.args.by)) t) (places (tm_of c.args.node.now)) (terms (tm_of c.args.node.now)) c.loop-i.made.items c.loop-i.i c.in-Some.p c.in_ok-shared-in-Some.field-0
    c.in-Some.ensures u c.loop-i.invariant)

pub raise_parts-returns-clause-parts : goal.raise_parts-returns-clause-parts
raise_parts-returns-clause-parts t c =
    all_made (λ n t. rename (lifts n (skip c.args.from c.args.by)) t) (places (tm_of c.args.node.now)) (terms (tm_of c.args.node.now)) c.loop-i.made.items c.loop-i.i (omega arith) c.loop-i.invariant
    ∙ rename_mapped (skip c.args.from c.args.by) (places (tm_of c.args.node.now)) (terms (tm_of c.args.node.now))
