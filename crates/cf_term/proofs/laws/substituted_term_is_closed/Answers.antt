use Rattle.cf_term.proofs.Closed.{substituted_closed}
use Rattle.cf_term.proofs.laws.substituted_term_is_closed.Goals as goal

pub returns : goal.returns
returns c = substituted_closed
