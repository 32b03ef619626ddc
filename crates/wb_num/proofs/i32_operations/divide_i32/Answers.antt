use Rattle.std.proofs.Common.{◌≡◌, ◌%◌, ap, ◌∙◌, arith}
use Rattle.std.proofs.lemmas.Grind.{common_steps}
use Rattle.wb_syntax.specs.Table.{row_at}
use Rattle.wb_syntax.specs.Numbers.{binary, Yields}
use Rattle.wb_num.proofs.Rows.{narrow_by_zero}
use Rattle.wb_num.proofs.i32_operations.divide_i32.Goals as goal

pub returns-then-b-eq0 : goal.returns-then-b-eq0
returns-then-b-eq0 c = narrow_by_zero c.args.op c.args.a c.args.b (omega arith) (omega arith) (omega arith)

pub returns-in_default : goal.returns-in_default
unfolding row_at
returns-in_default c =
    let e : c.args.op ≡ 112 = omega arith in
    let last : binary 112 c.args.a c.args.b ≡ Yields (c.args.a % c.args.b) = grind (arith, common_steps) in
    ap (λ op. binary op c.args.a c.args.b) e ∙ last
