use Rattle.std.proofs.Common.{map, [], ◌∷◌, ◌++◌, sym, ap, ◌∙◌}
use Rattle.wb_decode.specs.Sections.{section_of, answer_from}
use Rattle.wb_decode.proofs.Joining.{without_custom}
use Rattle.wb_decode.proofs.contents.keep.Goals as goal

pub returns-in-Custom : goal.returns-in-Custom
returns-in-Custom c = λ whole r. without_custom whole (map section_of c.args.sections.now) r ∙ ap (λ s. answer_from whole (map section_of c.args.sections.now ++ section_of s ∷ []) r) (sym c.in-Custom.is)
