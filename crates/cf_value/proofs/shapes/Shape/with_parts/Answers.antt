use Rattle.std.proofs.Common.{arith}
use Rattle.cf_value.proofs.Built.{branches_count}
use Rattle.cf_value.proofs.shapes.Shape.with_parts.Goals as goal

pub case-requires : goal.case-requires
case-requires c =
    let h = rw c.in-Case.is at c.requires in
    omega (arith, h, branches_count c.in-Case.arms.items)
