use Rattle.wb_valid.proofs.Opcodes.{exponents}
use Rattle.wb_valid.proofs.rows.is_access.Goals as goal

pub returns-then-has_memory : goal.returns-then-has_memory
returns-then-has_memory c = exponents c.args.has_memory c.args.align c.args.exponent c.if-has_memory.true
