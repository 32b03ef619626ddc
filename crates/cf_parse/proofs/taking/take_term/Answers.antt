use Rattle.cf_parse.proofs.Taken.{retold}
use Rattle.cf_parse.specs.Kinds as kind
use Rattle.cf_parse.proofs.taking.take_term.Goals as goal

pub returns : goal.returns
returns c = λ s. retold (c.pop.ensures s kind.Term) (c.in_ok-term.ensures s)
