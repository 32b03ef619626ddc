use Rattle.std.proofs.Common.{MatchOption, subst, sym}
use Rattle.cf_words.specs.declared.reading.Reading.{Reading}
use Rattle.cf_words.specs.declared.reading.Step.{Step}
use Rattle.cf_words.specs.Reading.{Goes}
use Rattle.cf_words.proofs.Onward.{past_options}
use Rattle.cf_words.proofs.reading.Reading.next.Goals as goal

pub returns-in_default : goal.returns-in_default
returns-in_default c =
    subst
    (λ (s : Reading). MatchOption c.take_number.result ((t : Step) → Goes s c.args.word.now t → ⊥) (λ t. Goes s c.args.word.now t))
    (sym c.in-Options.is)
    (past_options c.in-Options.name c.in-Options.given c.args.word.now c.take_number.result c.in_default.ensures c.take_number.ensures)

pub returns-in-Numbers : goal.returns-in-Numbers
returns-in-Numbers c =
    subst
    (λ (s : Reading). MatchOption c.take_number-in-Numbers.result ((t : Step) → Goes s c.args.word.now t → ⊥) (λ t. Goes s c.args.word.now t))
    (sym c.in-Numbers.is)
    c.take_number-in-Numbers.ensures
