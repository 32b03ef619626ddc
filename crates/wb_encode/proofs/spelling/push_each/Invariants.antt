use Rattle.std.proofs.Common.{drop}
use Rattle.wb_encode.specs.Appended.{Appended}
use Rattle.wb_encode.proofs.Each.{Continues}
use Rattle.wb_encode.proofs.spelling.push_each.Given as goal

abbrev pub invariant-loop-part : goal.invariant-loop-part
invariant-loop-part g l = Appended l.fn.out.items l.out.items (Continues g.T.Spell.spells l.parts (drop l.part-index l.parts))
