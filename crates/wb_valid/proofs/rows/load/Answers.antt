use Rattle.std.proofs.Common.{arith}
use Rattle.wb_valid.proofs.Opcodes.{no_load}
use Rattle.wb_valid.proofs.rows.load.Goals as goal

pub returns-in_default : goal.returns-in_default
returns-in_default c = no_load c.args.has_memory c.args.align c.args.op (omega arith) (λ a b. omega arith) (λ a b. omega arith)

pub returns-in_default-2 : goal.returns-in_default-2
returns-in_default-2 c = no_load c.args.has_memory c.args.align c.args.op (omega arith) (λ a b. omega arith) (λ a b. omega arith)
