use Rattle.std.proofs.Common.{refl}
use Rattle.cf_parse.proofs.Reducing.{of_eight}
use Rattle.cf_parse.proofs.Stages.{mapped}
use Rattle.cf_parse.specs.Kinds as kind
use Rattle.cf_parse.specs.Meaning as meant
use Rattle.cf_parse.proofs.terms.pair_type.Goals as goal

pub returns : goal.returns
returns c =
    let s = c.args.source.now in
    mapped c.put_form.result (λ _ e. of_eight meant.pair_type c.args.place c.requires ((c.discard.ensures s).1 kind.Token) ((c.discard-2.ensures s).1 kind.Token) (c.pop.ensures s kind.Binder) ((c.discard-3.ensures s).1 kind.Token) (c.in_ok-first.ensures s) ((c.discard-4.ensures s).1 kind.Token) ((c.discard-5.ensures s).1 kind.Token) (c.in_ok-second.ensures s) (λ h. refl) (λ h. refl) (c.binder-binder.ensures s) (λ h. refl) (λ h. refl) (λ h. refl) (λ h. refl) (λ h. refl) (e s) refl) c.put_form.ensures
