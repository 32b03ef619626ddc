use Rattle.wb_syntax.specs.Binary.{value_type}
use Rattle.wb_encode.specs.Appended.{VecSpelled}
use Rattle.wb_encode.proofs.Appending.{after_byte, both, pushed, for_same}
use Rattle.wb_encode.proofs.Items.{func_type_is}
use Rattle.wb_encode.proofs.ItemsParted.{func_type_parts}
use Rattle.wb_encode.proofs.parts.FuncTypeSpell.push_to.Goals as goal

pub returns : goal.returns
returns c =
    after_byte (pushed c.in_ok-push.ensures.items)
    (both (for_same (VecSpelled value_type.Is) c.as_slice.ensures c.in_ok-push_vec.ensures) c.in_ok-push_result.ensures)
    (func_type_is c.args.self.now) (func_type_parts c.args.self.now)
