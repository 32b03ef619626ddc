use Rattle.std.proofs.Common.{refl}
use Rattle.cf_parse.proofs.Reducing.{of_one}
use Rattle.cf_parse.specs.Kinds as kind
use Rattle.cf_parse.specs.Meaning as meant
use Rattle.cf_parse.proofs.binding.unnamed.Goals as goal

pub returns : goal.returns
returns c =
    let s = c.args.source.now in
    of_one meant.unnamed c.args.place c.requires ((c.discard.ensures s).1 kind.Token) (λ h. refl) (c.in_ok-push.ensures s) refl
