use Rattle.std.proofs.Common.{◌≡◌, ◌+◌, true, arith, ap, refl}
use Rattle.cf_term.specs.Core.{depth}
use Rattle.cf_term.specs.Numbered.{places, terms}
use Rattle.cf_term.specs.View.{tm_of}
use Rattle.cf_term.proofs.Below.{part_closed, from_next}
use Rattle.cf_term.proofs.Walked.{seen_deep, depth_terms, not_past, after_end}
use Rattle.cf_term.proofs.closing.+closing.Goals as goal

pub are_below-is_below-requires : goal.are_below-is_below-requires
are_below-is_below-requires t c =
    let low = seen_deep (places (tm_of c.args.node.now)) (terms (tm_of c.args.node.now)) c.loop-i.i c.in-Some.p c.in-Some.ensures in
    (omega (arith, low, depth_terms (tm_of c.args.node.now), ap depth c.deref.ensures), tt)

pub are_below-returns-then-not-is_below : goal.are_below-returns-then-not-is_below
are_below-returns-then-not-is_below t c = λ n e.
    let decides = c.is_below.ensures (n + c.in-Some.p.binds) (omega (arith, e, c.saturating_add.ensures)) in (
      (λ y. cc),
      (λ closed.
          let one = part_closed n (places (tm_of c.args.node.now)) (terms (tm_of c.args.node.now)) c.loop-i.i c.in-Some.p c.in-Some.ensures closed in
          let yes : c.is_below.result ≡ true = decides.1 (rw c.deref.ensures one) in
          cc),
    )

pub are_below-unreachable-requires : goal.are_below-unreachable-requires
are_below-unreachable-requires t c = not_past (places (tm_of c.args.node.now)) (terms (tm_of c.args.node.now)) c.loop-i.i (omega arith) c.in-None.ensures

pub are_below-loop-i-preserved : goal.are_below-loop-i-preserved
are_below-loop-i-preserved t c = λ n e others.
    let decides = c.is_below.ensures (n + c.in-Some.p.binds) (omega (arith, e, c.saturating_add.ensures)) in
    let yes : c.is_below.result ≡ true = cc in
    let one = rw c.deref.ensures at (decides.0 yes) in
    c.loop-i.invariant n e (from_next n (places (tm_of c.args.node.now)) (terms (tm_of c.args.node.now)) c.loop-i.i c.in-Some.p c.in-Some.ensures one others)

pub are_below-returns : goal.are_below-returns
are_below-returns t c = λ n e. (
  (λ y. c.loop-i.invariant n e (rw (after_end (terms (tm_of c.args.node.now)) c.loop-i.i (omega arith)) tt)),
  (λ y. refl),
)
