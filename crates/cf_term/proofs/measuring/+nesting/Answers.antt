use Rattle.std.proofs.Common.{arith, ap}
use Rattle.cf_term.specs.Core.{depth}
use Rattle.cf_term.specs.View.{tm_of}
use Rattle.cf_term.specs.Numbered.{places, terms}
use Rattle.cf_term.specs.Measures.{nesting, nesting_all}
use Rattle.cf_term.proofs.Walked.{seen_deep, seen_next, depth_terms, not_past, after_end}
use Rattle.cf_term.proofs.measuring.+nesting.Goals as goal

pub nesting_of_parts-nesting-requires : goal.nesting_of_parts-nesting-requires
nesting_of_parts-nesting-requires t c =
    let low = seen_deep (places (tm_of c.args.node.now)) (terms (tm_of c.args.node.now)) c.loop-i.i c.in-Some.p c.in-Some.ensures in
    (omega (arith, low, depth_terms (tm_of c.args.node.now), ap depth c.deref.ensures), tt)

pub nesting_of_parts-unreachable-requires : goal.nesting_of_parts-unreachable-requires
nesting_of_parts-unreachable-requires t c = not_past (places (tm_of c.args.node.now)) (terms (tm_of c.args.node.now)) c.loop-i.i (omega arith) c.in-None.ensures

pub nesting_of_parts-loop-i-preserved : goal.nesting_of_parts-loop-i-preserved
nesting_of_parts-loop-i-preserved t c =
    let e = ap nesting_all (seen_next (places (tm_of c.args.node.now)) (terms (tm_of c.args.node.now)) c.loop-i.i c.in-Some.p c.in-Some.ensures) in
    let same = ap nesting c.deref.ensures in
    (omega (arith, same), omega (arith, e, same))

pub nesting_of_parts-returns : goal.nesting_of_parts-returns
nesting_of_parts-returns t c = omega (arith, ap nesting_all (after_end (terms (tm_of c.args.node.now)) c.loop-i.i (omega arith)))
