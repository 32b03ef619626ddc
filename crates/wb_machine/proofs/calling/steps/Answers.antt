use Rattle.std.proofs.Common.{◌≡◌, ◌∙◌, arith, subst}
use Rattle.wb_syntax.specs.Runs.{runs}
use Rattle.wb_plain.specs.Follows.{store_of, pages_of}
use Rattle.wb_control.specs.Changes.{SameRooms}
use Rattle.wb_control.specs.Advances.{StepsTo, Advances}
use Rattle.wb_control.specs.declared.run.Run.{Run}
use Rattle.wb_control.proofs.Advanced.{has_func}
use Rattle.wb_control.proofs.Constants.{same_body}
use Rattle.wb_machine.specs.Ends.{EndsAs}
use Rattle.wb_machine.proofs.Steps.{same_pages, settled_on, went_on, closed_on, ended_at}
use Rattle.wb_machine.proofs.calling.steps.Goals as goal

-- there is room for as much as at first
same_rooms : (first r new : Run) → SameRooms r new → SameRooms first r → SameRooms first new
same_rooms first r new k v = ((k.0.0 ∙ v.0.0, k.0.1 ∙ v.0.1), k.1 ∙ v.1, k.2 ∙ v.2)

pub loop-left-preserved-in-Settles : goal.loop-left-preserved-in-Settles
loop-left-preserved-in-Settles c =
    let m = c.args.m.now in
    let first = c.args.run.now in
    let r = c.loop-left.run in
    let new = c.advance.new.run in
    let v = c.loop-left.invariant in
    record {
      goes = λ d nests leads s. let g = v.goes d nests leads s in settled_on m (pages_of first.state.memory) first r new c.args.limit c.loop-left.left d g
          (c.in-Settles.ensures.advances g.config nests leads g.stands);
      fits = c.in-Settles.ensures.fits;
      body = same_body m r new c.loop-left.body.now c.in-Settles.ensures.stays.0 v.body;
      size = c.advance.ensures.size ∙ v.size;
      room = same_rooms first r new c.advance.ensures.room v.room;
    }

pub loop-left-preserved-in-Goes : goal.loop-left-preserved-in-Goes
loop-left-preserved-in-Goes c =
    let m = c.args.m.now in
    let first = c.args.run.now in
    let r = c.loop-left.run in
    let new = c.advance.new.run in
    let v = c.loop-left.invariant in
    let size = same_pages r.state.memory first.state.memory v.size in
    record {
      goes = λ d nests leads s. let g = v.goes d nests leads s in went_on m (pages_of first.state.memory) first r new c.args.limit c.loop-left.left d c.loop-left-test.true v.room g
          (subst (λ p. StepsTo m p g.config r new) size (c.in-Goes.ensures.advances g.config nests leads g.stands));
      fits = c.in-Goes.ensures.fits;
      body = same_body m r new c.loop-left.body.now c.in-Goes.ensures.stays v.body;
      size = c.advance.ensures.size ∙ v.size;
      room = same_rooms first r new c.advance.ensures.room v.room;
    }

pub loop-left-preserved : goal.loop-left-preserved
loop-left-preserved c =
    let m = c.args.m.now in
    let first = c.args.run.now in
    let r = c.loop-left.run in
    let new = c.advance.new.run in
    let v = c.loop-left.invariant in
    let size = same_pages r.state.memory first.state.memory v.size in
    record {
      goes = λ d nests leads s. let g = v.goes d nests leads s in went_on m (pages_of first.state.memory) first r new c.args.limit c.loop-left.left d c.loop-left-test.true v.room g
          (subst (λ p. StepsTo m p g.config r new) size (c.in-Moves.ensures.advances g.config nests leads g.stands));
      fits = c.in-Moves.ensures.fits;
      body = c.in-Some-body_of.ensures;
      size = c.advance.ensures.size ∙ v.size;
      room = same_rooms first r new c.advance.ensures.room v.room;
    }

pub returns-in_default-body_of-clause-ends : goal.returns-in_default-body_of-clause-ends
returns-in_default-body_of-clause-ends c =
    let m = c.args.m.now in
    let v = c.loop-left.invariant in
    λ start d nests leads h.
    let g = v.goes d nests leads h in
    let s = c.in-Moves.ensures.advances g.config nests leads g.stands in
    absurd (has_func m c.advance.new.run s.0 c.in_default-body_of.ensures s.1)

pub returns-in_default-advance-clause-ends : goal.returns-in_default-advance-clause-ends
returns-in_default-advance-clause-ends c =
    let m = c.args.m.now in
    let v = c.loop-left.invariant in
    let first = c.args.run.now in
    let r = c.loop-left.run in
    let new = c.advance.new.run in
    let size = same_pages r.state.memory first.state.memory v.size in
    λ start d nests leads h.
    let g = v.goes d nests leads h in
    let advances = subst (λ p. Advances m p g.config c.advance.result r new) size (c.advance.ensures.advances g.config nests leads g.stands) in
    closed_on start m (pages_of first.state.memory) first r new c.args.limit c.loop-left.left d c.advance.result c.end_of.result c.loop-left-test.true v.room g
    c.in_default-advance.not-Settles c.in_default-advance.not-Goes c.in_default-advance.not-Moves advances (c.end_of.ensures start (store_of new.state))

pub returns-clause-ends : goal.returns-clause-ends
returns-clause-ends c =
    let m = c.args.m.now in
    let v = c.loop-left.invariant in
    let none : c.loop-left.left ≡ 0 = omega (arith, c.loop-left-test.false) in
    let first = c.args.run.now in
    let r = c.loop-left.run in
    let left = store_of c.stop.new.run.state in
    λ start d nests leads h.
    let g = v.goes d nests leads h in
    let ends = subst (λ p. EndsAs start (runs m p r.state.operands.room 0 g.config) c.stop.result left) (same_pages r.state.memory first.state.memory v.size)
    (c.stop.ensures.ends start g.config nests leads g.stands) in
    ended_at start m (pages_of first.state.memory) first r c.stop.new.run c.args.limit c.loop-left.left d c.stop.result none v.room g ends
