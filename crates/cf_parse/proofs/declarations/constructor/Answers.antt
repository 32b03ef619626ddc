use Rattle.std.proofs.Common.{refl}
use Rattle.cf_parse.proofs.Declaring.{constructor_put}
use Rattle.cf_parse.specs.Kinds as kind
use Rattle.cf_parse.proofs.declarations.constructor.Goals as goal

pub returns : goal.returns
returns c =
    let s = c.args.source.now in
    constructor_put c.args.place c.requires (c.take_token-name.ensures s kind.Name tt) ((c.discard.ensures s).1 _) (c.pop.ensures s _) ((c.discard-2.ensures s).1 _) (λ h. refl) (c.in_ok-fields.ensures s) c.in_ok-ctor.ensures (c.in_ok-push.ensures s)
