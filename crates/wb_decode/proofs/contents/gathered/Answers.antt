use Rattle.std.proofs.Common.{map, []}
use Rattle.wb_syntax.specs.Binary.{gathered}
use Rattle.wb_decode.specs.Sections.{section_of, gathered_of, gather_all}
use Rattle.wb_decode.proofs.Joining.{popped}
use Rattle.wb_decode.proofs.contents.gathered.Goals as goal

pub loop-section-preserved : goal.loop-section-preserved
loop-section-preserved c = popped c.loop-section.sections c.pop.new.self c.in-Some.section (gathered_of c.loop-section.contents) (gathered_of c.add.new.contents) (gather_all (map section_of c.args.sections) (gathered [])) c.in-Some.ensures c.add.ensures c.loop-section.invariant
