use Rattle.std.proofs.Common.{ℕ, map, [], ◌∷◌, ◌++◌, length, drop, subst, sym, arith}
use Rattle.wb_syntax.specs.Binary.{read_sections, last_after}
use Rattle.wb_decode.specs.Sections.{section_of, answer_from}
use Rattle.wb_decode.proofs.Joining.{Rest, goes_on, same_rest}
use Rattle.wb_decode.proofs.decoding.sections.Goals as goal

pub loop-rest-preserved : goal.loop-rest-preserved
loop-rest-preserved c =
    let whole = length c.args.bytes.now in
    let all = answer_from whole [] (read_sections whole 0 (drop 8 c.args.bytes.now)) in
    let before = map section_of c.loop-rest.sections in
    let s = section_of c.in-Ok.read.0 in
    let now = map section_of c.keep.new.sections in
    let left = c.in-Ok.read.1.now in
    let next = goes_on whole all before s c.loop-rest.last c.loop-rest.rest.now left c.loop-rest.invariant.rest c.in-Ok.ensures.reading.0 c.in-Ok.ensures.shorter in
    let kept = same_rest whole all (before ++ s ∷ []) now (last_after c.loop-rest.last s) left (λ r. c.in_ok-keep.ensures whole r) next in
    record {
      rest = subst (λ (last : ℕ). Rest whole all now last left) (sym c.last_after-last.ensures) kept;
      shorter = omega (arith, c.in-Ok.ensures.shorter, c.loop-rest.invariant.shorter);
    }
