use Rattle.std.proofs.Common.{◌≡◌, ap, arith}
use Rattle.wb_syntax.specs.Table.{row_at}
use Rattle.wb_syntax.specs.Numbers.{binary}
use Rattle.wb_num.proofs.i64_operations.combine_i64.Goals as goal

pub returns-in_default : goal.returns-in_default
unfolding row_at
returns-in_default c = let e : c.args.op ≡ 133 = omega arith in ap (λ op. binary op c.args.a c.args.b) e
