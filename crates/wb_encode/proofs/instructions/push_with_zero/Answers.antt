use Rattle.std.proofs.Common.{ℕ, List, ◌∷◌, [], refl, sym, subst}
use Rattle.wb_syntax.specs.Table.{WithZero}
use Rattle.wb_syntax.specs.Binary.{instr}
use Rattle.wb_encode.proofs.Appending.{after_byte, pushed}
use Rattle.wb_encode.proofs.Opcodes.{instr_is}
use Rattle.wb_encode.proofs.OpcodesParted.{zero_parts}
use Rattle.wb_encode.proofs.instructions.push_with_zero.Goals as goal

pub returns : goal.returns
returns c = λ i row.
    let whole = instr_is c.args.op (WithZero i) i i (0x00 ∷ []) row refl (0x00, [], refl, (refl, refl)) in
    after_byte (pushed c.in_ok-push.ensures.items) (pushed c.in_ok-push-2.ensures.items)
    (λ rest e. subst (λ (bs : List ℕ). instr.Is i (c.args.op ∷ bs)) (sym e) whole) (λ bytes. zero_parts c.args.op i bytes row)
