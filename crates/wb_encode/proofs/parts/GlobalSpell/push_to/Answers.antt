use Rattle.wb_syntax.specs.Binary.{instr}
use Rattle.wb_encode.specs.Appended.{EachSpelled}
use Rattle.wb_encode.proofs.Appending.{both, known, named, for_same}
use Rattle.wb_encode.proofs.Items.{global_is}
use Rattle.wb_encode.proofs.ItemsParted.{flag_shortest, global_parts}
use Rattle.wb_encode.proofs.parts.GlobalSpell.push_to.Goals as goal

pub returns : goal.returns
returns c =
    let g = c.args.self.now in
    let flag = known c.in_ok-push.ensures.items (flag_shortest g.mutable c.from.result c.from.ensures) in
    named (both c.in_ok-push_to.ensures (both flag (for_same (EachSpelled instr.Is) c.as_slice.ensures c.in_ok-push_each.ensures))) (λ bytes. global_is g bytes c.requires.0) (global_parts g)
