use Rattle.std.proofs.Common.{◌∙◌, ap, sym}
use Rattle.cf_syntax.proofs.Places.{here}
use Rattle.cf_syntax.proofs.Ranges.{picked, not_picked}
use Rattle.cf_syntax.specs.Numbers.{natlit_of, in_range}
use Rattle.cf_syntax.proofs.source.Source.natlit.Goals as goal

pub returns-in-Some-natlit : goal.returns-in-Some-natlit
returns-in-Some-natlit c = λ k ls e q r.
    let h = here c.args.self.now.tokens.now c.args.at c.in-Some.t k ls c.in-Some.ensures.some e in
    let text = ap (λ x. x.text) h ∙ sym c.text.ensures.value in
    ap natlit_of text ∙ picked _ _ _ c.in-Some-natlit.ensures

pub returns-in-None-natlit : goal.returns-in-None-natlit
returns-in-None-natlit c = λ k ls e q r.
    let h = here c.args.self.now.tokens.now c.args.at c.in-Some.t k ls c.in-Some.ensures.some e in
    let text = ap (λ x. x.text) h ∙ sym c.text.ensures.value in
    not_picked _ _ c.in-None-natlit.ensures ((λ i. in_range (sym q i) (sym text i)) ∙ r)
