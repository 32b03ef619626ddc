use Rattle.cf_parse.proofs.Taken.{retold, named_at}
use Rattle.cf_syntax.specs.Source.{from}
use Rattle.cf_syntax.specs.Places.{front}
use Rattle.cf_parse.specs.Kinds as kind
use Rattle.cf_parse.proofs.taking.take_named.Goals as goal

pub returns : goal.returns
returns c = let s = c.args.source.now in let ks = from s c.take_token-at.result in (front ks, retold (c.take_token-at.ensures s kind.Name tt) (named_at s.prelude ks c.place.ensures c.in_ok-name.ensures))
