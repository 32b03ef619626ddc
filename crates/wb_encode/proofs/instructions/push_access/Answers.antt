use Rattle.std.proofs.Common.{arith}
use Rattle.wb_encode.proofs.Appending.{after_byte, both, pushed}
use Rattle.wb_encode.proofs.Opcodes.{load_is, store_is}
use Rattle.wb_encode.proofs.OpcodesParted.{load_parts, store_parts}
use Rattle.wb_encode.proofs.instructions.push_access.Goals as goal

pub returns-clause-load : goal.returns-clause-load
returns-clause-load c = λ i row same.
    after_byte (pushed c.in_ok-push.ensures.items) (both (c.in_ok-push_unsigned.ensures 32 (omega arith)) (c.in_ok-push_unsigned-2.ensures 32 (omega arith)))
    (λ rest h. load_is c.args.op c.args.align c.args.offset i rest row same h) (λ bytes. load_parts c.args.op c.args.align c.args.offset i bytes row same)

pub returns-clause-store : goal.returns-clause-store
returns-clause-store c = λ i row same.
    after_byte (pushed c.in_ok-push.ensures.items) (both (c.in_ok-push_unsigned.ensures 32 (omega arith)) (c.in_ok-push_unsigned-2.ensures 32 (omega arith)))
    (λ rest h. store_is c.args.op c.args.align c.args.offset i rest row same h) (λ bytes. store_parts c.args.op c.args.align c.args.offset i bytes row same)
