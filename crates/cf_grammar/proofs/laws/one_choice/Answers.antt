use Rattle.cf_grammar.proofs.Reached.{one_choice}
use Rattle.cf_grammar.proofs.laws.one_choice.Goals as goal

pub returns : goal.returns
returns c = one_choice
