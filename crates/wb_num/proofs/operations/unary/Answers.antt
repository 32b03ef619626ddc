use Rattle.std.proofs.Common.{◌≡◌, ap, sym, subst, ◌<◌, ◌^◌, ℕ, arith}
use Rattle.std.proofs.lemmas.Bool.Decides.{nat_tests}
use Rattle.wb_syntax.specs.Table.{row_at}
use Rattle.wb_syntax.specs.Numbers.{unary}
use Rattle.wb_num.specs.Answers.{IsOperand}
use Rattle.wb_num.proofs.Rows.{one_operand, small_fits}
use Rattle.wb_num.proofs.operations.unary.Goals as goal

pub returns-in_default-clause-number : goal.returns-in_default-clause-number
unfolding row_at
returns-in_default-clause-number c =
    let h = one_operand c.args.op (omega arith) c.requires.operation in
    let e : c.args.op ≡ 173 = grind (arith, nat_tests, c.in_default) in
    sym (ap (λ op. unary op c.args.a) e)

pub returns-in_default-clause-fits : goal.returns-in_default-clause-fits
unfolding row_at
returns-in_default-clause-fits c =
    let h = one_operand c.args.op (omega arith) c.requires.operation in
    let e : c.args.op ≡ 173 = grind (arith, nat_tests, c.in_default) in
    let b : c.args.a < 2 ^ 32 = subst (λ (op : ℕ). IsOperand op c.args.a) e c.requires.operand in
    small_fits c.args.op c.args.a b
