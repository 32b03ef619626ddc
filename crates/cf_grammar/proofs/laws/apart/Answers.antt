use Rattle.cf_grammar.proofs.Reached.{no_two}
use Rattle.cf_grammar.proofs.laws.apart.Goals as goal

pub returns : goal.returns
returns c = no_two
