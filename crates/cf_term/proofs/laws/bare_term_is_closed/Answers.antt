use Rattle.cf_term.proofs.Closed.{bare_closed}
use Rattle.cf_term.proofs.laws.bare_term_is_closed.Goals as goal

pub returns : goal.returns
returns c = bare_closed
