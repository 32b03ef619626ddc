use Rattle.std.proofs.Common.{◌/◌, arith, sym}
use Rattle.cf_eval.proofs.Placed.{group_second, group_last, group_first, group_past}
use Rattle.cf_eval.proofs.binders.in_group.Goals as goal

pub returns-then-pair-count : goal.returns-then-pair-count
returns-then-pair-count c = sym (group_second c.args.count c.args.count c.args.i (c.args.i / 2) (omega (arith, c.if-second-eq1.true)) c.if-pair-count.true)

pub returns-else-pair-count : goal.returns-else-pair-count
returns-else-pair-count c = sym (group_past c.args.count c.args.count c.args.i (c.args.i / 2) (omega (arith, c.if-second-eq1.true)) c.if-pair-count.false)

pub returns-then-pair-count-2 : goal.returns-then-pair-count-2
returns-then-pair-count-2 c = sym (group_last c.args.count c.args.count c.args.i (omega (arith, c.if-second-eq1.false, c.if-pair-count-2.true)))

pub returns-else-pair-count-2 : goal.returns-else-pair-count-2
returns-else-pair-count-2 c = sym (group_first c.args.count c.args.count c.args.i (c.args.i / 2) (omega (arith, c.if-second-eq1.false)) c.if-pair-count-2.false)
