use Rattle.std.proofs.Common.{refl}
use Rattle.cf_parse.proofs.Reducing.{of_five}
use Rattle.cf_parse.proofs.Stages.{mapped}
use Rattle.cf_parse.specs.Kinds as kind
use Rattle.cf_parse.specs.Meaning as meant
use Rattle.cf_parse.proofs.binding.typed_binder.Goals as goal

pub returns : goal.returns
returns c =
    let s = c.args.source.now in
    mapped c.push.result (λ _ e. of_five (meant.typed c.args.implicit) c.args.place c.requires ((c.discard.ensures s).1 kind.Token) (c.pop.ensures s kind.Binder) ((c.discard-2.ensures s).1 kind.Token) (c.in_ok-ty.ensures s) ((c.discard-3.ensures s).1 kind.Token) (λ h. refl) (c.binder-binder.ensures s) (λ h. refl) (λ h. refl) (λ h. refl) (e s) refl) c.push.ensures
