use Rattle.std.proofs.Common.{subst}
use Rattle.std.specs.Prelude.{true, false}
use Rattle.wb_plain.specs.Follows.{pages_of}
use Rattle.wb_control.specs.Advances.{HasStep}
use Rattle.wb_machine.proofs.Steps.{full_stop, limited, stuck_stop}
use Rattle.wb_machine.proofs.calling.stop.Goals as goal

pub returns-then-not-settle-clause-ends : goal.returns-then-not-settle-clause-ends
returns-then-not-settle-clause-ends c =
    λ start d nests leads s. full_stop start c.args.m.now (pages_of c.args.run.now.state.memory) d c.args.run.now c.settle.new.run s c.settle.ensures.store (c.if-not-settle.ensures.settles d s)

pub returns-then-has_step-clause-ends : goal.returns-then-has_step-clause-ends
returns-then-has_step-clause-ends c =
    λ start d nests leads s.
    let h = c.if-not-settle.ensures.settles d s in
    limited start c.args.m.now (pages_of c.args.run.now.state.memory) d c.args.run.now c.settle.new.run c.has_step.new.run c.has_step.ensures.store h
    (subst (λ o. HasStep c.args.m.now (pages_of o) d true) c.settle.ensures.store.0 (c.if-has_step.ensures.step d nests leads h.0))

pub returns-else-has_step-clause-ends : goal.returns-else-has_step-clause-ends
returns-else-has_step-clause-ends c =
    λ start d nests leads s.
    let h = c.if-not-settle.ensures.settles d s in
    stuck_stop start c.args.m.now (pages_of c.args.run.now.state.memory) d c.args.run.now c.settle.new.run c.has_step.new.run c.has_step.ensures.store h
    (subst (λ o. HasStep c.args.m.now (pages_of o) d false) c.settle.ensures.store.0 (c.if-has_step.ensures.step d nests leads h.0))
