use Rattle.std.proofs.Common.{◌≡◌, ◌-◌, refl, arith}
use Rattle.cf_core_text.proofs.Steps.{grows, grown}
use Rattle.cf_core_text.proofs.Declared.{parameters_next, parameters_end}
use Rattle.cf_core_text.proofs.lines.push_parameters.Goals as goal

pub loop-k-init : goal.loop-k-init
loop-k-init c =
    let e : c.args.count - 0 ≡ c.args.count = omega arith in
    rw e refl

pub loop-k-preserved : goal.loop-k-preserved
loop-k-preserved c = grows _ _ _ _ _ _ c.loop-k.invariant c.in_ok-extend_from_slice.ensures.items (parameters_next c.args.count c.loop-k.k c.loop-k-test.true)

pub returns : goal.returns
returns c = grown _ _ _ c.loop-k.invariant (parameters_end c.args.count c.loop-k.k c.loop-k-test.false)
