use Rattle.std.proofs.Common.{arith, ap, ◌∙◌, sym, ◌++◌, append_assoc}
use Rattle.cf_term.specs.View.{heads}
use Rattle.std.specs.Vec.Iter.{into_iter_items}
use Rattle.cf_value.proofs.Built.{bodies_grown, heads_grown, branches_next, case_made}
use Rattle.cf_value.proofs.forming.case.Goals as goal

pub loop-a-preserved : goal.loop-a-preserved
loop-a-preserved c =
    let step = branches_next c.args.arms.now.items c.deref-a-items.result.now c.loop-a.a-index c.deref-a-items.ensures.value c.loop-a-test.true in
    rw c.in_ok-push.ensures
    (omega arith, rw (heads_grown, append_assoc) (ap (λ hs. heads c.loop-a.made.items ++ hs) (sym step) ∙ c.loop-a.invariant.1), rw bodies_grown (rw c.next-body.ensures.items at c.loop-a.invariant.2))

pub returns : goal.returns
returns c =
    case_made c.args.arms.now.items c.loop-a.made.items c.loop-a.a-index (into_iter_items c.loop-a.rest) c.next-scrutinee.result.value c.next-ty.result.value _ (omega arith) (omega arith) c.loop-a.invariant.1 c.loop-a.invariant.2
