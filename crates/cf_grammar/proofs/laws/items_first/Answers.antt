use Rattle.cf_grammar.proofs.Items.{items_are_first}
use Rattle.cf_grammar.proofs.laws.items_first.Goals as goal

pub returns : goal.returns
returns c = items_are_first
