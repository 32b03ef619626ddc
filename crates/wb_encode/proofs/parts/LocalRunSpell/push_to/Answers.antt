use Rattle.std.proofs.Common.{arith}
use Rattle.wb_encode.proofs.Appending.{both}
use Rattle.wb_encode.proofs.parts.LocalRunSpell.push_to.Goals as goal

pub returns : goal.returns
returns c = both (c.in_ok-push_unsigned.ensures 32 (omega arith)) c.in_ok-push_to.ensures
