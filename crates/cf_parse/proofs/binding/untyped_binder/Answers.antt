use Rattle.std.proofs.Common.{refl}
use Rattle.cf_parse.proofs.Reducing.{of_one}
use Rattle.cf_parse.specs.Kinds as kind
use Rattle.cf_parse.specs.Meaning as meant
use Rattle.cf_parse.proofs.binding.untyped_binder.Goals as goal

pub returns : goal.returns
returns c =
    let s = c.args.source.now in
    of_one meant.untyped c.args.place c.requires (c.pop.ensures s kind.Binder) (c.binder-binder.ensures s) (c.in_ok-push.ensures s) refl
