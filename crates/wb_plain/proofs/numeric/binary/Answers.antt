use Rattle.std.proofs.Common.{arith, refl, sym, ap}
use Rattle.wb_syntax.specs.Table.{row_at}
use Rattle.wb_plain.specs.Effects.{binary_typed}
use Rattle.wb_plain.proofs.Opcodes.{no_binary}
use Rattle.wb_plain.proofs.numeric.binary.Goals as goal

pub returns-in_default : goal.returns-in_default
returns-in_default c = (ap (binary_typed (row_at c.args.op) c.args.state.now) (sym (no_binary c.args.op (omega arith) (λ a b. omega arith) (λ a b. omega arith) (λ a b. omega arith) (λ a b. omega arith))), (refl, refl), (refl, refl))
