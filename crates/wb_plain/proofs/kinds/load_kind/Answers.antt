use Rattle.std.proofs.Common.{arith}
use Rattle.wb_plain.proofs.Opcodes.{no_load}
use Rattle.wb_plain.proofs.kinds.load_kind.Goals as goal

pub returns-in_default-clause-row : goal.returns-in_default-clause-row
returns-in_default-clause-row c = no_load c.args.op (omega arith) (λ a b. omega arith) (λ a b. omega arith)
