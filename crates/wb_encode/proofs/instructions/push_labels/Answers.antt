use Rattle.std.proofs.Common.{arith}
use Rattle.wb_encode.proofs.Appending.{after_byte, both, pushed}
use Rattle.wb_encode.proofs.Opcodes.{labels_is}
use Rattle.wb_encode.proofs.OpcodesParted.{labels_parts}
use Rattle.wb_encode.proofs.instructions.push_labels.Goals as goal

pub returns : goal.returns
returns c =
    after_byte (pushed c.in_ok-push.ensures.items) (both c.in_ok-push_vec.ensures (c.in_ok-push_unsigned.ensures 32 (omega arith)))
    (λ rest h. labels_is c.args.labels.now c.args.last rest h) (labels_parts c.args.labels.now c.args.last)
