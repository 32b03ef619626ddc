use Rattle.std.proofs.Common.{refl}
use Rattle.wb_syntax.specs.declared.syntax.Instr.TheVariants.{Unreachable, Nop, Drop, Select, LocalGet, LocalSet, LocalTee, GlobalGet, GlobalSet, Load, Store, MemorySize, MemoryGrow, Unary, Binary}
use Rattle.wb_plain.specs.Follows.{pages_of}
use Rattle.wb_control.proofs.Carried.{as_straight}
use Rattle.wb_control.proofs.carrying.carry_out.Goals as goal

pub returns-in-Unreachable : goal.returns-in-Unreachable
returns-in-Unreachable c =
    let r = c.args.run.now in
    let room = pages_of r.state.memory in
    as_straight _ c.args.m.now room c.args.jumps.now c.args.next _ _ r _ c.in-Unreachable.is refl refl
    (c.follow.ensures room Unreachable r.state refl c.requires (refl, (refl, refl), (refl, refl)))

pub returns-in-Nop : goal.returns-in-Nop
returns-in-Nop c =
    let r = c.args.run.now in
    let room = pages_of r.state.memory in
    as_straight _ c.args.m.now room c.args.jumps.now c.args.next _ _ r _ c.in-Nop.is refl refl
    (c.follow-in-Nop.ensures room Nop r.state refl c.requires refl)

pub returns-in-Drop : goal.returns-in-Drop
returns-in-Drop c =
    let r = c.args.run.now in
    let room = pages_of r.state.memory in
    as_straight _ c.args.m.now room c.args.jumps.now c.args.next _ _ r _ c.in-Drop.is refl refl
    (c.follow-in-Drop.ensures room Drop r.state refl c.requires c.drop_word.ensures)

pub returns-in-Select : goal.returns-in-Select
returns-in-Select c =
    let r = c.args.run.now in
    let room = pages_of r.state.memory in
    as_straight _ c.args.m.now room c.args.jumps.now c.args.next _ _ r _ c.in-Select.is refl refl
    (c.follow-in-Select.ensures room Select r.state refl c.requires c.select.ensures)

pub returns-in-LocalGet : goal.returns-in-LocalGet
returns-in-LocalGet c =
    let r = c.args.run.now in
    let room = pages_of r.state.memory in
    as_straight _ c.args.m.now room c.args.jumps.now c.args.next _ _ r _ c.in-LocalGet.is refl refl
    (c.follow-in-LocalGet.ensures room (LocalGet c.in-LocalGet.index) r.state refl c.requires c.local_get.ensures)

pub returns-in-LocalSet : goal.returns-in-LocalSet
returns-in-LocalSet c =
    let r = c.args.run.now in
    let room = pages_of r.state.memory in
    as_straight _ c.args.m.now room c.args.jumps.now c.args.next _ _ r _ c.in-LocalSet.is refl refl
    (c.follow-in-LocalSet.ensures room (LocalSet c.in-LocalSet.index) r.state refl c.requires c.local_set.ensures)

pub returns-in-LocalTee : goal.returns-in-LocalTee
returns-in-LocalTee c =
    let r = c.args.run.now in
    let room = pages_of r.state.memory in
    as_straight _ c.args.m.now room c.args.jumps.now c.args.next _ _ r _ c.in-LocalTee.is refl refl
    (c.follow-in-LocalTee.ensures room (LocalTee c.in-LocalTee.index) r.state refl c.requires c.local_tee.ensures)

pub returns-in-GlobalGet : goal.returns-in-GlobalGet
returns-in-GlobalGet c =
    let r = c.args.run.now in
    let room = pages_of r.state.memory in
    as_straight _ c.args.m.now room c.args.jumps.now c.args.next _ _ r _ c.in-GlobalGet.is refl refl
    (c.follow-in-GlobalGet.ensures room (GlobalGet c.in-GlobalGet.index) r.state refl c.requires c.global_get.ensures)

pub returns-in-GlobalSet : goal.returns-in-GlobalSet
returns-in-GlobalSet c =
    let r = c.args.run.now in
    let room = pages_of r.state.memory in
    as_straight _ c.args.m.now room c.args.jumps.now c.args.next _ _ r _ c.in-GlobalSet.is refl refl
    (c.follow-in-GlobalSet.ensures room (GlobalSet c.in-GlobalSet.index) r.state refl c.requires c.global_set.ensures)

pub returns-in-Load : goal.returns-in-Load
returns-in-Load c =
    let r = c.args.run.now in
    let room = pages_of r.state.memory in
    as_straight _ c.args.m.now room c.args.jumps.now c.args.next _ _ r _ c.in-Load.is refl refl
    (c.follow-in-Load.ensures room (Load c.in-Load.op c.in-Load.field-1 c.in-Load.offset) r.state refl c.requires c.load.ensures)

pub returns-in-Store : goal.returns-in-Store
returns-in-Store c =
    let r = c.args.run.now in
    let room = pages_of r.state.memory in
    as_straight _ c.args.m.now room c.args.jumps.now c.args.next _ _ r _ c.in-Store.is refl refl
    (c.follow-in-Store.ensures room (Store c.in-Store.op c.in-Store.field-1 c.in-Store.offset) r.state refl c.requires c.store.ensures)

pub returns-in-MemorySize : goal.returns-in-MemorySize
returns-in-MemorySize c =
    let r = c.args.run.now in
    let room = pages_of r.state.memory in
    as_straight _ c.args.m.now room c.args.jumps.now c.args.next _ _ r _ c.in-MemorySize.is refl refl
    (c.follow-in-MemorySize.ensures room MemorySize r.state refl c.requires c.size.ensures)

pub returns-in-MemoryGrow : goal.returns-in-MemoryGrow
returns-in-MemoryGrow c =
    let r = c.args.run.now in
    let room = pages_of r.state.memory in
    as_straight _ c.args.m.now room c.args.jumps.now c.args.next _ _ r _ c.in-MemoryGrow.is refl refl
    (c.follow-in-MemoryGrow.ensures room MemoryGrow r.state refl c.requires c.grow.ensures)

pub returns-in-Unary : goal.returns-in-Unary
returns-in-Unary c =
    let r = c.args.run.now in
    let room = pages_of r.state.memory in
    as_straight _ c.args.m.now room c.args.jumps.now c.args.next _ _ r _ c.in-Unary.is refl refl
    (c.follow-in-Unary.ensures room (Unary c.in-Unary.op) r.state refl c.requires c.unary.ensures)

pub returns-in-Binary : goal.returns-in-Binary
returns-in-Binary c =
    let r = c.args.run.now in
    let room = pages_of r.state.memory in
    as_straight _ c.args.m.now room c.args.jumps.now c.args.next _ _ r _ c.in-Binary.is refl refl
    (c.follow-in-Binary.ensures room (Binary c.in-Binary.op) r.state refl c.requires c.binary.ensures)
