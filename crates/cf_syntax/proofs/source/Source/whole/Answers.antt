use Rattle.std.proofs.Common.{◌∙◌, ap, sym}
use Rattle.std.proofs.Common.{rules, w64}
use Rattle.std.proofs.lemmas.Int.{to_z-of_z}
use Rattle.cf_syntax.proofs.Places.{here}
use Rattle.cf_syntax.proofs.Ranges.{picked, not_picked}
use Rattle.cf_syntax.specs.Numbers.{whole_of, in_range}
use Rattle.cf_syntax.proofs.source.Source.whole.Goals as goal

pub returns-in-Some-whole : goal.returns-in-Some-whole
returns-in-Some-whole c = λ k ls e q r.
    let h = here c.args.self.now.tokens.now c.args.at c.in-Some.t k ls c.in-Some.ensures.some e in
    let text = ap (λ x. x.text) h ∙ sym c.text.ensures.value in
    ap whole_of text ∙ picked _ _ _ c.in-Some-whole.ensures ∙ sym (to_z-of_z w64 c.in-Some-whole.z (search rules))

pub returns-in-None-whole : goal.returns-in-None-whole
returns-in-None-whole c = λ k ls e q r.
    let h = here c.args.self.now.tokens.now c.args.at c.in-Some.t k ls c.in-Some.ensures.some e in
    let text = ap (λ x. x.text) h ∙ sym c.text.ensures.value in
    not_picked _ _ c.in-None-whole.ensures ((λ i. in_range (sym q i) (sym text i)) ∙ r)
