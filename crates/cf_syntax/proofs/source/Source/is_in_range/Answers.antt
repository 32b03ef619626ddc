use Rattle.std.proofs.Common.{◌∙◌, ap, sym}
use Rattle.cf_syntax.proofs.Places.{here}
use Rattle.cf_syntax.specs.Numbers.{in_range}
use Rattle.cf_syntax.specs.Tokens.{class_of}
use Rattle.cf_syntax.proofs.source.Source.is_in_range.Goals as goal

pub returns-in-Some : goal.returns-in-Some
returns-in-Some c = λ k ls e.
    let h = here c.args.self.now.tokens.now c.args.at c.in-Some.t k ls c.in-Some.ensures.some e in
    c.is_in_range.ensures ∙ ap (λ j. in_range j c.text-text.result.now) c.class_of.ensures ∙ ap (λ x. in_range (class_of c.in-Some.t.kind x) x) c.text-text.ensures.value ∙ sym (ap (λ t. in_range t.class t.text) h)
