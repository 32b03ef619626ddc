use Rattle.std.proofs.Common.{arith}
use Rattle.wb_encode.proofs.parts.U32Spell.push_to.Goals as goal

pub returns : goal.returns
returns c = c.in_ok-push_unsigned.ensures 32 (omega arith)
