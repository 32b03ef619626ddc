use Rattle.std.specs.Prelude.{length}
use Rattle.wb_code.proofs.Passed.{passed_back, passed_all, one_less}
use Rattle.wb_code.proofs.leading.jumps.Goals as goal

pub loop-at-preserved : goal.loop-at-preserved
loop-at-preserved c = record {
  within = one_less c.loop-at.at (length c.args.body.now) c.loop-at.invariant.within;
  passed = passed_back c.args.body.now c.loop-at.at c.index-body-at.result c.in_ok-jump.jump c.loop-at.outer c.pass.new.outer c.loop-at.found c.push.new.self c.loop-at-test.true c.loop-at.invariant.within c.index-body-at.is c.in_ok-jump.ensures c.in_ok-push.ensures c.loop-at.invariant.passed;
}

pub returns : goal.returns
returns c = passed_all c.args.body.now c.loop-at.at c.loop-at.outer c.loop-at.found c.in_order.result c.loop-at-test.false c.in_order.ensures c.loop-at.invariant.passed
