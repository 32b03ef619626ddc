use Rattle.std.proofs.Common.{◌≡◌, [], map, length}
use Rattle.wb_syntax.specs.Binary.{gathered}
use Rattle.wb_decode.specs.Sections.{section_of, gathered_of, gather_all}
use Rattle.wb_decode.proofs.contents.gathered.Given as goal

abbrev pub invariant-loop-section : goal.invariant-loop-section
invariant-loop-section l = gather_all (map section_of l.sections) (gathered_of l.contents) ≡ gather_all (map section_of l.fn.sections) (gathered [])

abbrev pub decreases-loop-section : goal.decreases-loop-section
decreases-loop-section l = length l.sections
