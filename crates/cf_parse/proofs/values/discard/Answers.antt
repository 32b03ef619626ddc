use Rattle.cf_parse.specs.Values.{sem}
use Rattle.cf_parse.proofs.values.discard.Goals as goal

pub returns : goal.returns
returns c = λ s. (sem s c.pop.result, c.pop.ensures s)
