use Rattle.std.proofs.Common.{◌∙◌, ap, refl, reverse, sym}
use Rattle.cf_parse.proofs.Reducing.{binders_listed, of_four}
use Rattle.cf_parse.specs.Kinds as kind
use Rattle.cf_parse.specs.Meaning as meant
use Rattle.cf_parse.proofs.terms.branch.Goals as goal

pub returns : goal.returns
returns c =
    let s = c.args.source.now in
    of_four meant.an_arm c.args.place c.requires c.in_ok-ctor.ensures.1 (c.pop.ensures s (kind.Many kind.Binder)) ((c.discard.ensures s).1 kind.Token) (c.in_ok-body.ensures s) (λ h. refl) (c.in_ok-names.ensures s) (λ h. refl) (λ h. refl) (c.in_ok-push.ensures s) (c.in_ok-arm.ensures ∙ sym (ap (λ bs. meant.arm c.in_ok-ctor.ctor bs c.in_ok-body.body.value) (binders_listed (reverse c.in_ok-names.names.items))))
