use Rattle.std.proofs.Common.{◌≡◌, ap, ◌∙◌, arith}
use Rattle.std.proofs.lemmas.Grind.{common_steps}
use Rattle.wb_syntax.specs.Table.{row_at}
use Rattle.wb_syntax.specs.Numbers.{binary, Yields}
use Rattle.wb_num.proofs.i32_operations.shift_i32.Goals as goal

pub returns-in_default : goal.returns-in_default
unfolding row_at
returns-in_default c =
    let e : c.args.op ≡ 120 = omega arith in
    let last : binary 120 c.args.a c.args.b ≡ Yields c.rotate_right.result = grind (arith, common_steps) in
    ap (λ op. binary op c.args.a c.args.b) e ∙ last
