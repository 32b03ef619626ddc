use Rattle.std.proofs.Common.{◌≡◌, ◌^◌, ap, sym, refl, subst, ◌∙◌, rules, ℤ, to_z, of_z, w32, w64, FitsSigned}
use Rattle.std.proofs.lemmas.Int.{to_z-of_z}
use Rattle.wb_encode.specs.Appended.{IsWithin}
use Rattle.wb_encode.proofs.Leb.{within_32, within_64}
use Rattle.wb_syntax.specs.declared.syntax.Instr.TheVariants.{I32Const, I64Const, Block, Loop, If, Br, BrIf, Call, LocalGet, LocalSet, LocalTee, GlobalGet, GlobalSet}
use Rattle.wb_syntax.specs.Table.{Alone, WithZero, row_at}
use Rattle.wb_encode.proofs.instructions.InstrSpell.push_to.Goals as goal

pub returns-in-Unreachable : goal.returns-in-Unreachable
unfolding row_at
returns-in-Unreachable c = c.push_plain.ensures c.args.self.now (ap Alone (sym c.in-Unreachable.is))

pub returns-in-Nop : goal.returns-in-Nop
unfolding row_at
returns-in-Nop c = c.push_plain-in-Nop.ensures c.args.self.now (ap Alone (sym c.in-Nop.is))

pub returns-in-Block : goal.returns-in-Block
unfolding row_at
returns-in-Block c = c.push_construct.ensures c.args.self.now Block refl c.in-Block.is

pub returns-in-Loop : goal.returns-in-Loop
unfolding row_at
returns-in-Loop c = c.push_construct-in-Loop.ensures c.args.self.now Loop refl c.in-Loop.is

pub returns-in-If : goal.returns-in-If
unfolding row_at
returns-in-If c = c.push_construct-in-If.ensures c.args.self.now If refl c.in-If.is

pub returns-in-Else : goal.returns-in-Else
unfolding row_at
returns-in-Else c = c.push_plain-in-Else.ensures c.args.self.now (ap Alone (sym c.in-Else.is))

pub returns-in-End : goal.returns-in-End
unfolding row_at
returns-in-End c = c.push_plain-in-End.ensures c.args.self.now (ap Alone (sym c.in-End.is))

pub returns-in-Br : goal.returns-in-Br
unfolding row_at
returns-in-Br c = c.push_indexed.ensures c.args.self.now Br refl c.in-Br.is

pub returns-in-BrIf : goal.returns-in-BrIf
unfolding row_at
returns-in-BrIf c = c.push_indexed-in-BrIf.ensures c.args.self.now BrIf refl c.in-BrIf.is

pub returns-in-Return : goal.returns-in-Return
unfolding row_at
returns-in-Return c = c.push_plain-in-Return.ensures c.args.self.now (ap Alone (sym c.in-Return.is))

pub returns-in-Call : goal.returns-in-Call
unfolding row_at
returns-in-Call c = c.push_indexed-in-Call.ensures c.args.self.now Call refl c.in-Call.is

pub returns-in-Drop : goal.returns-in-Drop
unfolding row_at
returns-in-Drop c = c.push_plain-in-Drop.ensures c.args.self.now (ap Alone (sym c.in-Drop.is))

pub returns-in-Select : goal.returns-in-Select
unfolding row_at
returns-in-Select c = c.push_plain-in-Select.ensures c.args.self.now (ap Alone (sym c.in-Select.is))

pub returns-in-LocalGet : goal.returns-in-LocalGet
unfolding row_at
returns-in-LocalGet c = c.push_indexed-in-LocalGet.ensures c.args.self.now LocalGet refl c.in-LocalGet.is

pub returns-in-LocalSet : goal.returns-in-LocalSet
unfolding row_at
returns-in-LocalSet c = c.push_indexed-in-LocalSet.ensures c.args.self.now LocalSet refl c.in-LocalSet.is

pub returns-in-LocalTee : goal.returns-in-LocalTee
unfolding row_at
returns-in-LocalTee c = c.push_indexed-in-LocalTee.ensures c.args.self.now LocalTee refl c.in-LocalTee.is

pub returns-in-GlobalGet : goal.returns-in-GlobalGet
unfolding row_at
returns-in-GlobalGet c = c.push_indexed-in-GlobalGet.ensures c.args.self.now GlobalGet refl c.in-GlobalGet.is

pub returns-in-GlobalSet : goal.returns-in-GlobalSet
unfolding row_at
returns-in-GlobalSet c = c.push_indexed-in-GlobalSet.ensures c.args.self.now GlobalSet refl c.in-GlobalSet.is

pub returns-in-MemorySize : goal.returns-in-MemorySize
unfolding row_at
returns-in-MemorySize c = c.push_with_zero.ensures c.args.self.now (ap WithZero (sym c.in-MemorySize.is))

pub returns-in-MemoryGrow : goal.returns-in-MemoryGrow
unfolding row_at
returns-in-MemoryGrow c = c.push_with_zero-in-MemoryGrow.ensures c.args.self.now (ap WithZero (sym c.in-MemoryGrow.is))

pub returns-in-I32Const : goal.returns-in-I32Const
unfolding row_at
returns-in-I32Const c =
    let fits : FitsSigned w32 c.in-I32Const.z = search rules in
    let same : to_z w64 (of_z w64 c.from.result) ≡ c.in-I32Const.z = search (rules, to_z-of_z) in
    c.push_constant.ensures c.args.self.now 32 I32Const refl (subst (λ (y : ℤ). IsWithin (2 ^ 31) y) (sym same) (within_32 c.in-I32Const.z fits)) (c.in-I32Const.is ∙ ap I32Const (sym same))

pub returns-in-I64Const : goal.returns-in-I64Const
unfolding row_at
returns-in-I64Const c =
    let fits : FitsSigned w64 c.in-I64Const.z = search rules in
    let same : to_z w64 (of_z w64 c.in-I64Const.z) ≡ c.in-I64Const.z = to_z-of_z _ _ fits in
    c.push_constant-in-I64Const.ensures c.args.self.now 64 I64Const refl (subst (λ (y : ℤ). IsWithin (2 ^ 63) y) (sym same) (within_64 c.in-I64Const.z fits)) (c.in-I64Const.is ∙ ap I64Const (sym same))
