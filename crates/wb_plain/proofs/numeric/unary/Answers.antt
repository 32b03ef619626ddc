use Rattle.std.proofs.Common.{arith, refl, sym, ap}
use Rattle.wb_syntax.specs.Table.{row_at}
use Rattle.wb_plain.specs.Effects.{unary_typed}
use Rattle.wb_plain.proofs.Opcodes.{no_unary, narrow_counts, wide_counts, extensions}
use Rattle.wb_plain.proofs.numeric.unary.Goals as goal

pub unary_of-requires-in-103-to-105 : goal.unary_of-requires-in-103-to-105
unary_of-requires-in-103-to-105 c = narrow_counts c.args.op (omega arith) (omega arith)

pub unary_of-requires-in-121-to-123 : goal.unary_of-requires-in-121-to-123
unary_of-requires-in-121-to-123 c = wide_counts c.args.op (omega arith) (omega arith)

pub unary_of-requires-in-172-to-173 : goal.unary_of-requires-in-172-to-173
unary_of-requires-in-172-to-173 c = extensions c.args.op (omega arith) (omega arith)

pub returns-in_default : goal.returns-in_default
returns-in_default c = (ap (unary_typed (row_at c.args.op) c.args.state.now) (sym (no_unary c.args.op (omega arith) (λ a b. omega arith) (λ a b. omega arith) (λ a b. omega arith) (λ a b. omega arith) (λ a b. omega arith) (λ a b. omega arith))), (refl, refl), (refl, refl))

pub returns-in_default-2 : goal.returns-in_default-2
returns-in_default-2 c = (ap (unary_typed (row_at c.args.op) c.args.state.now) (sym (no_unary c.args.op (omega arith) (λ a b. omega arith) (λ a b. omega arith) (λ a b. omega arith) (λ a b. omega arith) (λ a b. omega arith) (λ a b. omega arith))), (refl, refl), (refl, refl))

pub returns-in_default-3 : goal.returns-in_default-3
returns-in_default-3 c = (ap (unary_typed (row_at c.args.op) c.args.state.now) (sym (no_unary c.args.op (omega arith) (λ a b. omega arith) (λ a b. omega arith) (λ a b. omega arith) (λ a b. omega arith) (λ a b. omega arith) (λ a b. omega arith))), (refl, refl), (refl, refl))

pub returns-in_default-4 : goal.returns-in_default-4
returns-in_default-4 c = (ap (unary_typed (row_at c.args.op) c.args.state.now) (sym (no_unary c.args.op (omega arith) (λ a b. omega arith) (λ a b. omega arith) (λ a b. omega arith) (λ a b. omega arith) (λ a b. omega arith) (λ a b. omega arith))), (refl, refl), (refl, refl))
