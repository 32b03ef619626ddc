use Rattle.std.proofs.Common.{ap, refl}
use Rattle.cf_parse.proofs.Reducing.{of_eight}
use Rattle.cf_parse.proofs.Stages.{mapped}
use Rattle.cf_parse.specs.Kinds as kind
use Rattle.cf_parse.specs.Meaning as meant
use Rattle.cf_parse.specs.Values.{binding_head, is_recursive}
use Rattle.cf_parse.proofs.terms.definition.Goals as goal

pub returns : goal.returns
returns c =
    let s = c.args.source.now in
    let action = meant.defined (binding_head c.args.form) (is_recursive c.args.form) in
    let node = ap (λ t. meant.term t) (c.in_ok-node.ensures c.args.place) in
    mapped c.put_form.result (λ _ e. of_eight action c.args.place c.requires ((c.discard.ensures s).1 kind.Token) (c.pop.ensures s kind.Binder) ((c.discard-2.ensures s).1 kind.Token) (c.in_ok-ty.ensures s) ((c.discard-3.ensures s).1 kind.Token) (c.in_ok-value.ensures s) ((c.discard-4.ensures s).1 kind.Token) (c.in_ok-body.ensures s) (λ h. refl) (c.binder-binder.ensures s) (λ h. refl) (λ h. refl) (λ h. refl) (λ h. refl) (λ h. refl) (λ h. refl) (e s) node) c.put_form.ensures
