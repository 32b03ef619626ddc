use Rattle.cf_term.proofs.Closed.{shifted_closed}
use Rattle.cf_term.proofs.laws.shifted_term_is_closed.Goals as goal

pub returns : goal.returns
returns c = shifted_closed
