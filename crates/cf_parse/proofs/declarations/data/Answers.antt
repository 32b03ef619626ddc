use Rattle.std.proofs.Common.{refl}
use Rattle.cf_parse.proofs.Declaring.{data_put}
use Rattle.cf_parse.specs.Kinds as kind
use Rattle.cf_parse.proofs.declarations.data.Goals as goal

pub returns : goal.returns
returns c =
    let s = c.args.source.now in
    data_put c.args.place c.requires ((c.discard.ensures s).1 _) (c.take_token-name.ensures s kind.Name tt) (c.pop.ensures s _) ((c.discard-2.ensures s).1 _) (c.pop-2.ensures s _) ((c.discard-3.ensures s).1 _) (λ h. refl) (c.in_ok-params.ensures s) (c.in_ok-ctors.ensures s) c.in_ok-decl.ensures (c.in_ok-push.ensures s)
