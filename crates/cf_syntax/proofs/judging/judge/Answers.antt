use Rattle.std.proofs.Common.{◌∙◌, subst, sym}
use Rattle.cf_grammar.specs.Grammar.{start}
use Rattle.cf_grammar.specs.Productions.{Follows}
use Rattle.cf_grammar.specs.Refusing.{IsText, Says}
use Rattle.cf_syntax.proofs.Judged.{is_text, none_bad}
use Rattle.cf_syntax.specs.Tokens.{classes, tokens_of}
use Rattle.cf_syntax.proofs.judging.judge.Goals as goal

pub walk-requires : goal.walk-requires
walk-requires c = record { text = subst IsText (sym (c.as_slice.ensures.value ∙ c.in-Ok.ensures)) (is_text c.args.source.now.tokens.now) }

pub judged-requires-clause-says : goal.judged-requires-clause-says
judged-requires-clause-says c = subst (λ cs. Says cs c.in-Ok-walk.walked.ending) (c.as_slice.ensures.value ∙ c.in-Ok.ensures) c.in-Ok-walk.ensures.says

pub returns-clause-fine : goal.returns-clause-fine
returns-clause-fine c =
    let w = c.in-Ok-walk.walked in
    subst (Says (classes (tokens_of c.args.source.now.tokens.now))) c.in_default-judged.ensures.fine (subst (λ cs. Says cs w.ending) (c.as_slice.ensures.value ∙ c.in-Ok.ensures) c.in-Ok-walk.ensures.says)

pub returns-clause-ranges : goal.returns-clause-ranges
returns-clause-ranges c = none_bad c.args.source.now.tokens.now c.first_literal-literal.result c.first_literal-literal.ensures c.in_default-judged.ensures.ranges

pub returns-clause-steps : goal.returns-clause-steps
returns-clause-steps c =
    subst (λ cs. Follows start c.in-Ok-walk.walked.steps.items cs) (c.as_slice.ensures.value ∙ c.in-Ok.ensures) (c.in-Ok-walk.ensures.steps c.in_default-judged.ensures.fine)
