use Rattle.std.proofs.Common.{sym}
use Rattle.wb_valid.proofs.Bodies.{decided}
use Rattle.wb_valid.proofs.Rests.{body_closes}
use Rattle.wb_valid.proofs.body.body_is_typed.Goals as goal

pub returns-in_ok-sums-in-Some : goal.returns-in_ok-sums-in-Some
returns-in_ok-sums-in-Some c = decided _ _ c.closes.result c.closes.ensures (body_closes c.args.m.now c.args.func.now c.in-Some.ty.now (sym c.in-Some.ensures.value))
