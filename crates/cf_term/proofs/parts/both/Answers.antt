use Rattle.std.proofs.Common.{◌-◌, arith}
use Rattle.cf_term.specs.Core.{nil}
use Rattle.cf_term.specs.View.{listed}
use Rattle.cf_term.proofs.Places.{listed_left, listed_right}
use Rattle.cf_term.proofs.parts.both.Goals as goal

pub returns-then-i-len : goal.returns-then-i-len
returns-then-i-len c = rw (listed_left c.args.ts.now.items (listed c.args.us.now.items nil) c.args.i (omega arith)) c.many.ensures

pub returns-else-i-len : goal.returns-else-i-len
returns-else-i-len c =
    rw (listed_right c.args.ts.now.items (listed c.args.us.now.items nil) c.args.i (c.args.i - c.len-else-i-len.result) (omega arith)) c.many-else-i-len.ensures
