use Rattle.wb_syntax.specs.Binary.{instr}
use Rattle.wb_encode.specs.Appended.{VecSpelled, EachSpelled}
use Rattle.wb_encode.specs.Encodable.{SpellsRun}
use Rattle.wb_encode.proofs.Appending.{both, for_same, all_of, named, turned}
use Rattle.wb_encode.proofs.Items.{code_is}
use Rattle.wb_encode.proofs.ItemsParted.{code_parts}
use Rattle.wb_encode.proofs.Parted.{sized_shortest}
use Rattle.wb_encode.proofs.sections.FuncSpell.push_to.Goals as goal

pub returns : goal.returns
returns c =
    let f = c.args.self.now in
    let written = all_of c.new-contents.ensures.items (both (for_same (VecSpelled SpellsRun) c.as_slice.ensures c.in_ok-push_vec.ensures) (for_same (EachSpelled instr.Is) c.as_slice-2.ensures c.in_ok-push_each.ensures)) in
    named (turned c.in_ok-push_sized.ensures (λ bytes s. sized_shortest c.push_each.new.out.items bytes written s)) (λ bytes. code_is f bytes c.requires.0.0 c.requires.1) (code_parts f.locals f.body)
