use Rattle.std.proofs.Common.{◌∙◌, ap, refl}
use Rattle.cf_parse.proofs.Reducing.{of_two}
use Rattle.cf_parse.proofs.Stages.{mapped}
use Rattle.cf_parse.specs.Kinds as kind
use Rattle.cf_parse.specs.Meaning as meant
use Rattle.cf_parse.specs.Values.{optional_onto}
use Rattle.cf_parse.proofs.terms.arrow.Goals as goal

pub returns-in-Some : goal.returns-in-Some
returns-in-Some c =
    let s = c.args.source.now in
    mapped c.put_form.result (λ _ e. of_two meant.arrow c.args.place c.requires (c.in_ok-domain.ensures s) (c.pop.ensures s (kind.Maybe kind.Onto)) (λ h. refl) (λ h. c.onto.ensures s h ∙ ap optional_onto c.in-Some.is) (e s) (c.arrow_node-node.ensures c.args.place)) c.put_form.ensures

pub returns-in-None : goal.returns-in-None
returns-in-None c =
    let s = c.args.source.now in
    mapped c.push.result (λ _ e. of_two meant.arrow c.args.place c.requires (c.in_ok-domain.ensures s) (c.pop.ensures s (kind.Maybe kind.Onto)) (λ h. refl) (λ h. c.onto.ensures s h ∙ ap optional_onto c.in-None.is) (e s) refl) c.push.ensures
