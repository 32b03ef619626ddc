use Rattle.cf_parse.proofs.Joined.{one_argument}
use Rattle.cf_parse.proofs.applying.with_arguments.Goals as goal

pub loop-u-preserved : goal.loop-u-preserved
loop-u-preserved c = one_argument c.args.at c.loop-u.t.value c.in-Some.u _ c.loop-u.arguments.items c.pop.new.self.items _ c.in-Some.ensures.items c.in_ok-t.ensures c.loop-u.invariant
