use Rattle.std.proofs.Common.{refl}
use Rattle.cf_parse.proofs.Declaring.{parameter_put}
use Rattle.cf_parse.specs.Kinds as kind
use Rattle.cf_parse.proofs.declarations.parameter.Goals as goal

pub returns : goal.returns
returns c =
    let s = c.args.source.now in
    parameter_put c.args.place c.requires ((c.discard.ensures s).1 _) (c.take_token-name.ensures s kind.Name tt) ((c.discard-2.ensures s).1 _) ((c.discard-3.ensures s).1 _) ((c.discard-4.ensures s).1 _) (λ h. refl) (c.in_ok-push.ensures s)
