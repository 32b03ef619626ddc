use Rattle.std.proofs.Common.{arith, ap, ◌∙◌, sym}
use Rattle.cf_term.specs.Core.{depth}
use Rattle.cf_term.specs.View.{tm_of}
use Rattle.cf_term.specs.Numbered.{places, terms}
use Rattle.cf_term.specs.Same.{plain}
use Rattle.cf_term.specs.Falls.{depth_marked}
use Rattle.cf_term.proofs.Compared.{always, never, false_true, same_then, same_else, parts_unequal, parts_step, parts_differ, parts_all}
use Rattle.cf_term.proofs.Walked.{seen_deep, depth_terms, not_past}
use Rattle.cf_term.proofs.comparing.+comparing.Goals as goal

pub same-same_parts-requires : goal.same-same_parts-requires
same-same_parts-requires t c = (omega (arith, depth_marked c.a.inside.inserted (tm_of c.a.inside.node), ap depth c.a.view_is), tt)

pub same-returns-then-same_root : goal.same-returns-then-same_root
same-returns-then-same_root t c =
    rw (← c.a.view_is, ← c.b.view_is)
    (same_then c.a.inside.inserted c.b.inside.inserted c.a.inside.node c.b.inside.node (c.same_root.ensures.0 c.if-same_root.true) c.same_parts.ensures)

pub same-returns-else-same_root : goal.same-returns-else-same_root
same-returns-else-same_root t c =
    rw (← c.a.view_is, ← c.b.view_is) (same_else c.same_root.result c.a.inside.inserted c.b.inside.inserted c.a.inside.node c.b.inside.node c.if-same_root.false c.same_root.ensures)

pub same_parts-returns-then-count : goal.same_parts-returns-then-count
same_parts-returns-then-count t c = never (λ e. omega (arith, parts_unequal (terms (tm_of c.args.a.now)) (terms (tm_of c.args.b.now)) e))

pub same_parts-same-requires : goal.same_parts-same-requires
same_parts-same-requires t c =
    let low = seen_deep (places (tm_of c.args.a.now)) (terms (tm_of c.args.a.now)) c.loop-i.i c.in-Some.p c.in-Some.ensures in
    (omega (arith, low, depth_terms (tm_of c.args.a.now), ap depth c.deref.ensures), tt)

pub same_parts-unreachable-requires : goal.same_parts-unreachable-requires
same_parts-unreachable-requires t c = not_past (places (tm_of c.args.b.now)) (terms (tm_of c.args.b.now)) c.loop-i.i (omega arith) c.in-None-part.ensures

pub same_parts-unreachable-requires-in-None : goal.same_parts-unreachable-requires-in-None
same_parts-unreachable-requires-in-None t c = not_past (places (tm_of c.args.a.now)) (terms (tm_of c.args.a.now)) c.loop-i.i (omega arith) c.in-None.ensures

pub same_parts-returns-then-not-same : goal.same_parts-returns-then-not-same
same_parts-returns-then-not-same t c =
    never
    (parts_differ (places (tm_of c.args.a.now)) (places (tm_of c.args.b.now)) (terms (tm_of c.args.a.now)) (terms (tm_of c.args.b.now)) c.loop-i.i c.in-Some.p c.in-Some-part.q c.in-Some.ensures
    c.in-Some-part.ensures (λ e. false_true (sym c.if-not-same.true ∙ c.same.ensures.1 (ap plain c.deref.ensures ∙ e ∙ sym (ap plain c.deref-in-Some-part.ensures)))) c.loop-i.invariant)

pub same_parts-loop-i-preserved : goal.same_parts-loop-i-preserved
same_parts-loop-i-preserved t c =
    parts_step (places (tm_of c.args.a.now)) (places (tm_of c.args.b.now)) (terms (tm_of c.args.a.now)) (terms (tm_of c.args.b.now)) c.loop-i.i c.in-Some.p c.in-Some-part.q c.in-Some.ensures
    c.in-Some-part.ensures (sym (ap plain c.deref.ensures) ∙ c.same.ensures.0 c.if-not-same.false ∙ ap plain c.deref-in-Some-part.ensures) c.loop-i.invariant

pub same_parts-returns : goal.same_parts-returns
same_parts-returns t c = always (parts_all (terms (tm_of c.args.a.now)) (terms (tm_of c.args.b.now)) c.loop-i.i (omega arith) (omega arith) c.loop-i.invariant)
