use Rattle.std.proofs.Common.{refl}
use Rattle.cf_parse.proofs.Declaring.{object_put}
use Rattle.cf_parse.specs.Kinds as kind
use Rattle.cf_parse.proofs.declarations.object.Goals as goal

pub returns : goal.returns
returns c =
    let s = c.args.source.now in
    object_put c.args.place c.requires (c.take_token-name.ensures s kind.Name tt) ((c.discard.ensures s).1 _) (c.pop.ensures s _) ((c.discard-2.ensures s).1 _) (c.pop-2.ensures s _) ((c.discard-3.ensures s).1 _) (λ h. refl) (c.in_ok-ty.ensures s) (c.in_ok-body.ensures s) c.in_ok-decl.ensures (c.in_ok-push.ensures s)
