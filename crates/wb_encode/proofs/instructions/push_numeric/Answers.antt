use Rattle.std.proofs.Common.{◌∷◌, []}
use Rattle.wb_encode.proofs.Appending.{known}
use Rattle.wb_encode.proofs.Shorter.{alone}
use Rattle.wb_encode.proofs.Opcodes.{one_is, two_is}
use Rattle.wb_encode.proofs.OpcodesParted.{one_parts, two_parts}
use Rattle.wb_encode.proofs.instructions.push_numeric.Goals as goal

pub returns-clause-one : goal.returns-clause-one
returns-clause-one c = λ i row same. known c.in_ok-push.ensures.items (alone (c.args.op ∷ []) (one_is c.args.op i row same) (λ bytes. one_parts c.args.op i bytes row same))

pub returns-clause-two : goal.returns-clause-two
returns-clause-two c = λ i row same. known c.in_ok-push.ensures.items (alone (c.args.op ∷ []) (two_is c.args.op i row same) (λ bytes. two_parts c.args.op i bytes row same))
