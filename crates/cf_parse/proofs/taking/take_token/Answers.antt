use Rattle.cf_parse.proofs.Taken.{retold}
use Rattle.cf_parse.proofs.taking.take_token.Goals as goal

pub returns : goal.returns
returns c = λ s j i. retold (c.pop.ensures s j) (c.token.ensures s j i)
