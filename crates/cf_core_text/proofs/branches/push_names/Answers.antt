use Rattle.std.proofs.Common.{◌≡◌, ◌-◌, refl, arith}
use Rattle.cf_core_text.specs.Pieces.{under}
use Rattle.cf_core_text.proofs.Steps.{begins, goes_on, ends}
use Rattle.cf_core_text.proofs.Branched.{names_at, names_end}
use Rattle.cf_core_text.proofs.branches.push_names.Goals as goal

pub loop-k-init : goal.loop-k-init
loop-k-init c =
    let e : c.args.count - 0 ≡ c.args.count = omega arith in
    rw e (begins _ _ _)

pub loop-k-preserved : goal.loop-k-preserved
loop-k-preserved c =
    goes_on _ _ c.loop-k.invariant c.in_ok-push_all.ensures
    (names_at c.args.s.globals c.args.s.depth c.args.count c.loop-k.k c.in_ok-before.before.depth c.variable.result c.loop-k-test.true c.variable.ensures (rw c.in_ok-before.ensures refl))
    (omega arith)

pub returns : goal.returns
returns c = ends c.loop-k.invariant (names_end c.args.s.globals (under c.args.s.depth c.loop-k.k) c.args.count c.loop-k.k c.loop-k-test.false) refl
