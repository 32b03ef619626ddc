use Rattle.std.proofs.Common.{◌∙◌}
use Rattle.wb_syntax.specs.Typing.{context_of}
use Rattle.wb_valid.proofs.Bodies.{closed_at}
use Rattle.wb_valid.proofs.body.closes.Goals as goal

pub returns-in-Closed : goal.returns-in-Closed
returns-in-Closed c =
    closed_at (context_of c.args.m.now c.args.func.now c.args.ty.now) c.loop-at.current c.loop-at.outer c.as_slice-body.result.now c.loop-at.at c.index-body-at.result c.loop-at-test.true c.index-body-at.is (rw c.in-Closed.is at c.in_ok-step.ensures)
    ∙ c.loop-at.invariant
