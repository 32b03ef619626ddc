use Rattle.cf_parse.proofs.Taken.{retold, word_at}
use Rattle.cf_parse.specs.Evaluation.{next_at, next_text}
use Rattle.cf_syntax.specs.Source.{from}
use Rattle.cf_syntax.specs.Places.{place}
use Rattle.cf_parse.specs.Kinds as kind
use Rattle.cf_parse.proofs.taking.take_word.Goals as goal

pub returns : goal.returns
returns c = let s = c.args.source.now in let ks = from s c.take_token-at.result in (place s.prelude (next_at ks), (next_text ks, λ n. retold (c.take_token-at.ensures s (kind.Word n) tt) (word_at s.prelude ks c.word.ensures)))
