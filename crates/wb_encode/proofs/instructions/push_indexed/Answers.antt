use Rattle.std.proofs.Common.{arith}
use Rattle.wb_syntax.specs.Table.{WithIndex}
use Rattle.wb_syntax.specs.Grammar.{index}
use Rattle.wb_encode.proofs.Appending.{after_byte, pushed}
use Rattle.wb_encode.proofs.Spelled.{mapped_is}
use Rattle.wb_encode.proofs.Opcodes.{instr_is}
use Rattle.wb_encode.proofs.OpcodesParted.{indexed_parts}
use Rattle.wb_encode.proofs.instructions.push_indexed.Goals as goal

pub returns : goal.returns
returns c = λ i make row same.
    after_byte (pushed c.in_ok-push.ensures.items) (c.in_ok-push_unsigned.ensures 32 (omega arith))
    (λ rest h. instr_is c.args.op (WithIndex make) i (make c.args.n) rest row same (mapped_is make index c.args.n rest h))
    (λ bytes. indexed_parts c.args.op make c.args.n i bytes row same)
