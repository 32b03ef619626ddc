use Rattle.std.proofs.Common.{◌+◌, ◌^◌, ◌<◌, ◌≤◌, length, arith, refl}
use Rattle.std.proofs.lemmas.Option.{slice_get_read}
use Rattle.wb_state.specs.Stack.{height_of}
use Rattle.wb_plain.specs.Follows.{pages_of}
use Rattle.wb_control.proofs.Carried.{carried, left, whole}
use Rattle.wb_control.proofs.advancing.advance.Goals as goal

pub returns : goal.returns
returns c =
    let r = c.args.run.now in
    let b = c.args.body.now in
    let i = c.index-body-run.result in
    let next = r.place.at + 1 in
    let there = slice_get_read b (length b) r.place.at i refl c.if-run-count.false c.index-body-run.is in
    let within : height_of r.state.operands ≤ r.state.operands.most = omega (arith, c.height-words.ensures.height, c.height-words.ensures.within) in
    let small : next < 2 ^ 64 = omega (arith, c.if-run-count.false) in
    let room = pages_of r.state.memory in
    let l = left c.carry_out.result c.args.m.now room c.args.jumps.now next i r c.carry_out.new.run refl small c.carry_out.ensures in
    record {
      advances = λ d nests leads s.
          carried c.args.m.now room c.args.jumps.now d c.carry_out.result b i next r c.carry_out.new.run refl c.requires.fits within c.requires.body there nests leads s
          c.carry_out.ensures;
      fits = l.fits;
      stays = l.stays;
      store = l.store;
      size = whole r.state.memory c.carry_out.new.run.state.memory l.size;
      room = l.room;
    }
