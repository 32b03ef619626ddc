use Rattle.cf_grammar.proofs.Determined.{determined}
use Rattle.cf_grammar.proofs.laws.one_ending.Goals as goal

pub returns : goal.returns
returns c = determined
