use Rattle.std.proofs.Common.{refl}
use Rattle.cf_core_text.specs.Layout.{word_at}
use Rattle.cf_core_text.specs.Pieces.{under}
use Rattle.cf_core_text.proofs.Steps.{begins, goes_on, ends}
use Rattle.cf_core_text.proofs.Grouped.{opened_at, opened_end, defined_next, defined_end}
use Rattle.cf_core_text.proofs.groups.push_definitions.Goals as goal

pub loop-k-init : goal.loop-k-init
loop-k-init c = begins _ _ _

pub loop-k-preserved : goal.loop-k-preserved
loop-k-preserved c =
    goes_on _ _ c.loop-k.invariant c.in_ok-push_all.ensures
    (opened_at c.args.s.globals c.args.s.depth c.args.inner.depth c.args.inner.globals c.in_ok-before.before.depth c.args.ds.now c.loop-k.k c.index-ds-k.result c.opening.result
    c.variable.result c.loop-k-test.true c.index-ds-k.is c.opening.ensures c.variable.ensures (rw c.in_ok-before.ensures refl) c.requires)
    (defined_next c.args.ds.now c.loop-k.k c.index-ds-k.result c.loop-k-test.true c.index-ds-k.is)

pub returns : goal.returns
returns c =
    ends c.loop-k.invariant
    (opened_end c.args.s.globals (under c.args.s.depth c.loop-k.k) c.args.s.depth c.args.inner.depth (word_at c.loop-k.k) c.args.ds.now c.loop-k.k c.loop-k-test.false)
    (defined_end c.args.ds.now c.loop-k.k c.loop-k-test.false)
