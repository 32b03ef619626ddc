use Rattle.cf_term.proofs.Closed.{among_more}
use Rattle.cf_term.proofs.laws.closed_among_more.Goals as goal

pub returns : goal.returns
returns c = among_more
