use Rattle.std.proofs.Common.{◌∙◌, ap, sym}
use Rattle.cf_syntax.proofs.Places.{at_end, here}
use Rattle.cf_syntax.proofs.source.Source.offset.Goals as goal

pub returns-in-Some : goal.returns-in-Some
returns-in-Some c = λ k ls e. sym (ap (λ x. x.at) (here c.args.self.now.tokens.now c.args.at c.in-Some.t k ls c.in-Some.ensures.some e))

pub returns-in-None : goal.returns-in-None
returns-in-None c = λ k ls e. c.text_len.ensures ∙ sym (ap (λ x. x.at) (at_end c.args.self.now.tokens.now c.args.at k ls (c.get.ensures.none c.in-None.is) e))
