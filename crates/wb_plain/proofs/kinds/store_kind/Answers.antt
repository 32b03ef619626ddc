use Rattle.std.proofs.Common.{arith}
use Rattle.wb_plain.proofs.Opcodes.{no_store}
use Rattle.wb_plain.proofs.kinds.store_kind.Goals as goal

pub returns-in_default : goal.returns-in_default
returns-in_default c = no_store c.args.op (omega arith) (λ a b. omega arith) (λ a b. omega arith)
