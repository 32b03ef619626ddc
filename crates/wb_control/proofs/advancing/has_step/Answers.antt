use Rattle.std.proofs.Common.{◌+◌, ◌^◌, ◌<◌, arith, refl, sym, subst, ◌∙◌}
use Rattle.wb_plain.specs.Follows.{pages_of}
use Rattle.wb_control.specs.Advances.{HasStep}
use Rattle.wb_control.proofs.Advanced.{is_straight, has_straight, has_instr}
use Rattle.wb_control.proofs.Carried.{left, has_made, no_control, spares}
use Rattle.wb_control.proofs.advancing.has_step.Goals as goal

pub returns-in_default-get-clause-step : goal.returns-in_default-get-clause-step
returns-in_default-get-clause-step c =
    λ d nests leads s. absurd (has_instr c.args.m.now c.args.run.now d c.in-Some.func.now (sym c.in-Some.ensures.value) (sym c.in_default-get.ensures.value) s)

pub returns-then-writes_store-clause-step : goal.returns-then-writes_store-clause-step
returns-then-writes_store-clause-step c =
    let m = c.args.m.now in
    let r = c.args.run.now in
    let f = c.in-Some.func.now in
    let i = c.in-Some-get.instr.now in
    let named = sym c.in-Some.ensures.value in
    let there = sym c.in-Some-get.ensures.value in
    let straight = no_control i (sym c.writes_store.ensures ∙ c.if-writes_store.true) in
    λ d nests leads s. has_straight m (pages_of r.state.memory) d f i r c.can_write.result named there straight (c.requires.settled f i named there) s
    (λ e rest. c.can_write.ensures.effect (pages_of r.state.memory) ∙ sym (c.effects_are_steps.ensures.answer m (pages_of r.state.memory) e rest i r.state (is_straight i straight)))

pub returns-else-writes_store : goal.returns-else-writes_store
returns-else-writes_store c =
    let m = c.args.m.now in
    let js = c.args.jumps.now in
    let r = c.args.run.now in
    let new = c.carry_out.new.run in
    let f = c.in-Some.func.now in
    let i = c.in-Some-get.instr.now in
    let next = r.place.at + 1 in
    let named = sym c.in-Some.ensures.value in
    let there = sym c.in-Some-get.ensures.value in
    let counts = c.requires.settled f i named there in
    let small : next < 2 ^ 64 = omega arith in
    record {
      step = λ d nests leads s.
          subst (HasStep m (pages_of r.state.memory) d) (sym c.is_made.ensures)
          (has_made m (pages_of r.state.memory) js d c.carry_out.result f.body i next r new refl (f, named, refl) there counts nests leads s c.carry_out.ensures);
      store = spares c.carry_out.result m (pages_of r.state.memory) js next i r new counts (sym c.writes_store.ensures ∙ c.if-writes_store.false) c.carry_out.ensures;
      room = (left c.carry_out.result m (pages_of r.state.memory) js next i r new refl small c.carry_out.ensures).room;
    }
