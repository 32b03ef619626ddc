use Rattle.cf_term.proofs.Closed.{substituted_under}
use Rattle.cf_term.proofs.laws.substitution_is_closed.Goals as goal

pub returns : goal.returns
returns c = substituted_under
