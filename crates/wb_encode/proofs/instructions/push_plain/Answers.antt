use Rattle.std.proofs.Common.{◌∷◌, [], refl}
use Rattle.wb_syntax.specs.Table.{Alone}
use Rattle.wb_encode.proofs.Appending.{known}
use Rattle.wb_encode.proofs.Shorter.{alone}
use Rattle.wb_encode.proofs.Opcodes.{instr_is}
use Rattle.wb_encode.proofs.OpcodesParted.{plain_parts}
use Rattle.wb_encode.proofs.instructions.push_plain.Goals as goal

pub returns : goal.returns
returns c = λ i row. known c.in_ok-push.ensures.items (alone (c.args.op ∷ []) (instr_is c.args.op (Alone i) i i [] row refl (refl, refl)) (λ bytes. plain_parts c.args.op i bytes row))
