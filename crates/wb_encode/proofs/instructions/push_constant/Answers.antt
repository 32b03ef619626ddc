use Rattle.std.proofs.Common.{◌≡◌, ℕ, ◌-◌, ◌^◌, ℤ, subst, to_z, of_z, w64}
use Rattle.std.proofs.lemmas.Int.{to_z-of_z}
use Rattle.wb_syntax.specs.Table.{Constant}
use Rattle.wb_syntax.specs.Grammar.{signed_number, IsSigned}
use Rattle.wb_encode.specs.Appended.{Written, IsWithin}
use Rattle.wb_encode.proofs.Appending.{after_byte, pushed}
use Rattle.wb_encode.proofs.Spelled.{mapped_is}
use Rattle.wb_encode.proofs.Opcodes.{instr_is}
use Rattle.wb_encode.proofs.OpcodesParted.{constant_parts}
use Rattle.wb_encode.proofs.instructions.push_constant.Goals as goal

pub returns : goal.returns
returns c =
    let same : to_z w64 (of_z w64 c.args.z) ≡ c.args.z = search (to_z-of_z) in
    let Written : ℤ → Type 0 = λ y. (bits : ℕ) → IsWithin (2 ^ (bits - 1)) y → Written c.push.new.self.items c.push_signed.new.out.items (λ bytes. IsSigned bits bytes y) in
    let number = subst Written same c.in_ok-push_signed.ensures in
    λ i bits make row within e.
    after_byte (pushed c.in_ok-push.ensures.items) (number bits within)
    (λ rest h. instr_is c.args.op (Constant bits make) i (make c.args.z) rest row e (mapped_is make (signed_number bits) c.args.z rest h))
    (λ bytes. constant_parts c.args.op bits make c.args.z i bytes row e)
