use Rattle.std.proofs.Common.{[], length, map, drop, ◌≤◌}
use Rattle.wb_syntax.specs.Binary.{read_sections}
use Rattle.wb_decode.specs.Sections.{section_of, answer_from}
use Rattle.wb_decode.proofs.Joining.{Rest}
use Rattle.wb_decode.proofs.decoding.sections.Given as goal

abbrev pub invariant-loop-rest : goal.invariant-loop-rest
invariant-loop-rest l = record {
  rest : Rest (length l.fn.bytes) (answer_from (length l.fn.bytes) [] (read_sections (length l.fn.bytes) 0 (drop 8 l.fn.bytes))) (map section_of l.sections) l.last l.rest;
  shorter : length l.rest ≤ length l.fn.bytes;
}

abbrev pub decreases-loop-rest : goal.decreases-loop-rest
decreases-loop-rest l = length l.rest
