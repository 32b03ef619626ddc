use Rattle.std.proofs.Common.{◌∙◌, ap, refl}
use Rattle.cf_tree.specs.View.{binder_of}
use Rattle.cf_parse.proofs.Reducing.{of_four}
use Rattle.cf_parse.proofs.Stages.{mapped}
use Rattle.cf_parse.specs.Kinds as kind
use Rattle.cf_parse.specs.Meaning as meant
use Rattle.cf_parse.specs.Values.{abstraction_head}
use Rattle.cf_parse.proofs.terms.abstraction.Goals as goal

pub returns : goal.returns
returns c =
    let s = c.args.source.now in
    let p = c.args.place in
    let d = c.domain-domain.result in
    let node = ap (λ t. meant.term t) (c.abstraction_node-node.ensures p) ∙ ap (λ a. meant.bound p (abstraction_head c.args.form d.implicit) a (binder_of d.binder) c.in_ok-body.body.value) c.in_ok-ty.ensures in
    mapped c.put_form.result (λ _ e. of_four (meant.abstraction (abstraction_head c.args.form)) p c.requires ((c.discard.ensures s).1 kind.Token) (c.pop.ensures s kind.Domain) ((c.discard-2.ensures s).1 kind.Token) (c.in_ok-body.ensures s) (λ h. refl) (c.domain-domain.ensures s) (λ h. refl) (λ h. refl) (e s) node) c.put_form.ensures
