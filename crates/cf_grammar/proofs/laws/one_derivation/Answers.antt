use Rattle.cf_grammar.proofs.Unique.{at_most_one_derivation}
use Rattle.cf_grammar.proofs.laws.one_derivation.Goals as goal

pub returns : goal.returns
returns c = at_most_one_derivation
