use Rattle.std.proofs.Common.{[], refl}
use Rattle.cf_parse.proofs.Reducing.{name_binds, of_one}
use Rattle.cf_parse.specs.Kinds as kind
use Rattle.cf_parse.specs.Meaning as meant
use Rattle.cf_syntax.specs.Source.{from}
use Rattle.cf_parse.proofs.binding.named.Goals as goal

pub returns : goal.returns
returns c =
    let s = c.args.source.now in
    let at = c.take_token-at.result in
    let f = (c.take_token-at.ensures s kind.Name tt [] c.requires).1.0 in
    of_one meant.named c.args.place c.requires (c.take_token-at.ensures s kind.Name tt) (λ h. refl) (c.in_ok-push.ensures s) (name_binds s.prelude (from s at) c.args.place _ f c.in_ok-name.ensures)
