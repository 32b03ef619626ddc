use Rattle.cf_parse.proofs.Listing.{behind_mark}
use Rattle.cf_parse.proofs.Stages.{mapped}
use Rattle.cf_parse.specs.Kinds as kind
use Rattle.cf_parse.proofs.lists.more_behind.Goals as goal

pub more-requires : goal.more-requires
more-requires c =
    let r = c.requires in
    (r.0, (r.1.0, ((c.discard.ensures c.args.source.now).1 kind.Token _ r.1.1).1.1))

pub returns : goal.returns
returns c = mapped c.more.result (λ _ h. behind_mark c.args.place c.requires.1.1 ((c.discard.ensures c.args.source.now).1 kind.Token) h) c.more.ensures
