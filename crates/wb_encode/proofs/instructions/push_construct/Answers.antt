use Rattle.wb_syntax.specs.Table.{WithResult}
use Rattle.wb_syntax.specs.Binary.{block_type}
use Rattle.wb_encode.proofs.Appending.{after_byte, pushed, known}
use Rattle.wb_encode.proofs.Spelled.{mapped_is}
use Rattle.wb_encode.proofs.Opcodes.{instr_is}
use Rattle.wb_encode.proofs.OpcodesParted.{construct_parts}
use Rattle.wb_encode.proofs.instructions.push_construct.Goals as goal

pub returns : goal.returns
returns c = λ i make row same.
    after_byte (pushed c.in_ok-push.ensures.items) (known c.in_ok-push-2.ensures.items c.block_type_byte-t.ensures)
    (λ rest h. instr_is c.args.op (WithResult make) i (make c.args.t) rest row same (mapped_is make block_type c.args.t rest h))
    (λ bytes. construct_parts c.args.op make c.args.t i bytes row same)
