use Rattle.std.proofs.Common.{arith, ap}
use Rattle.cf_term.specs.Core.{depth}
use Rattle.cf_term.specs.View.{tm_of}
use Rattle.cf_term.specs.Numbered.{places, terms}
use Rattle.cf_term.specs.Measures.{nodes, nodes_all}
use Rattle.cf_term.proofs.Walked.{seen_deep, seen_next, depth_terms, not_past, after_end}
use Rattle.cf_term.proofs.measuring.+counting.Goals as goal

pub size_of_parts-size-requires : goal.size_of_parts-size-requires
size_of_parts-size-requires t c =
    let low = seen_deep (places (tm_of c.args.node.now)) (terms (tm_of c.args.node.now)) c.loop-i.i c.in-Some.p c.in-Some.ensures in
    (omega (arith, low, depth_terms (tm_of c.args.node.now), ap depth c.deref.ensures), tt)

pub size_of_parts-unreachable-requires : goal.size_of_parts-unreachable-requires
size_of_parts-unreachable-requires t c = not_past (places (tm_of c.args.node.now)) (terms (tm_of c.args.node.now)) c.loop-i.i (omega arith) c.in-None.ensures

pub size_of_parts-loop-i-preserved : goal.size_of_parts-loop-i-preserved
size_of_parts-loop-i-preserved t c =
    let e = ap nodes_all (seen_next (places (tm_of c.args.node.now)) (terms (tm_of c.args.node.now)) c.loop-i.i c.in-Some.p c.in-Some.ensures) in
    let same = ap nodes c.deref.ensures in
    (omega (arith, same), omega (arith, e, same))

pub size_of_parts-returns : goal.size_of_parts-returns
size_of_parts-returns t c = omega (arith, ap nodes_all (after_end (terms (tm_of c.args.node.now)) c.loop-i.i (omega arith)))
