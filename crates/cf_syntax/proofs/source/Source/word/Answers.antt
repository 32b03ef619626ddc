use Rattle.std.proofs.Common.{◌∙◌, sym}
use Rattle.cf_syntax.proofs.Ranges.{word_inj}
use Rattle.cf_syntax.proofs.source.Source.word.Goals as goal

pub returns-in-Word : goal.returns-in-Word
returns-in-Word c = λ y e. word_inj (sym c.in-Word.is ∙ sym c.class.ensures.front ∙ e)

pub returns-in_default : goal.returns-in_default
returns-in_default c = λ y e. absurd (c.in_default.not-Word y (sym c.class.ensures.front ∙ e))
