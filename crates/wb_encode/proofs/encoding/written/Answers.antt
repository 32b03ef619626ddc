use Rattle.std.proofs.Common.{◌++◌, ap, ◌∙◌, subst, sym}
use Rattle.wb_syntax.specs.Binary.{func_type, limits, global, export}
use Rattle.wb_encode.specs.Appended.{SectionSpelled}
use Rattle.wb_encode.specs.Shortest.{IsCanonical}
use Rattle.wb_encode.specs.Encodable.{SpellsCode, types_of}
use Rattle.wb_syntax.specs.Grammar.{index}
use Rattle.wb_encode.proofs.Appending.{both, named, for_same}
use Rattle.wb_encode.proofs.Whole.{coded_section, coded_section_back}
use Rattle.wb_encode.proofs.Canonical.{canonical}
use Rattle.wb_encode.proofs.encoding.written.Goals as goal

pub returns : goal.returns
returns c =
    let m = c.args.m.now in
    let all = both (for_same (SectionSpelled 1 func_type.Is) c.as_slice.ensures c.in_ok-push_section.ensures)
    (both (for_same (λ fs. SectionSpelled 3 index.Is (types_of fs)) c.as_slice-2.ensures c.in_ok-push_type_indices.ensures)
    (both (for_same (SectionSpelled 5 limits.Is) c.as_slice-3.ensures c.in_ok-push_section-2.ensures)
    (both (for_same (SectionSpelled 6 global.Is) c.as_slice-4.ensures c.in_ok-push_section-3.ensures)
    (both (for_same (SectionSpelled 7 export.Is) c.as_slice-5.ensures c.in_ok-push_section-4.ensures)
    (named (for_same (SectionSpelled 10 SpellsCode) c.as_slice-6.ensures c.in_ok-push_section-5.ensures) (coded_section m) (coded_section_back m)))))) in
    subst (IsCanonical m) (sym (all.joined ∙ ap (λ xs. xs ++ all.bytes) c.in_ok-out.ensures.items)) (canonical m all.bytes all.holds)
