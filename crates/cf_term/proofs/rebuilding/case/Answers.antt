use Rattle.std.proofs.Common.{arith, ap, ◌∙◌, sym, ◌++◌, append_assoc}
use Rattle.cf_term.specs.View.{heads}
use Rattle.std.specs.Vec.Iter.{into_iter_items}
use Rattle.cf_term.proofs.Rebuilt.{bodies_more, heads_more, heads_next, case_built}
use Rattle.cf_term.proofs.rebuilding.case.Goals as goal

pub loop-b-preserved : goal.loop-b-preserved
loop-b-preserved c =
    let step = heads_next c.args.branches.now.items c.deref-b-items.result.now c.loop-b.b-index c.b-item.result c.deref-b-items.ensures.value c.loop-b-test.true c.b-item.is in
    rw c.in_ok-push.ensures
    (omega arith, rw (heads_more, append_assoc) (ap (λ hs. heads c.loop-b.made.items ++ hs) (sym step) ∙ c.loop-b.invariant.1), rw bodies_more (rw c.next-body.ensures.items at c.loop-b.invariant.2))

pub returns : goal.returns
returns c =
    case_built c.args.branches.now.items c.loop-b.made.items c.loop-b.b-index (into_iter_items c.loop-b.rest) c.next-scrutinee.result.value c.next-ty.result.value _ (omega arith) (omega arith) c.loop-b.invariant.1 c.loop-b.invariant.2
