use Rattle.std.proofs.Common.{refl}
use Rattle.cf_parse.proofs.Reducing.{of_two}
use Rattle.cf_parse.proofs.Stages.{mapped}
use Rattle.cf_parse.specs.Kinds as kind
use Rattle.cf_parse.specs.Meaning as meant
use Rattle.cf_parse.proofs.terms.onto.Goals as goal

pub returns : goal.returns
returns c =
    let s = c.args.source.now in
    mapped c.push.result (λ _ e. of_two (meant.behind c.args.object) c.args.place c.requires ((c.discard.ensures s).1 kind.Token) (c.in_ok-codomain.ensures s) (λ h. refl) (λ h. refl) (e s) refl) c.push.ensures
