use Rattle.cf_term.proofs.Closed.{substitution_keeps}
use Rattle.cf_term.proofs.laws.substitution_of_closed.Goals as goal

pub returns : goal.returns
returns c = substitution_keeps
