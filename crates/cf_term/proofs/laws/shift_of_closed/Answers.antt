use Rattle.cf_term.proofs.Closed.{shift_keeps}
use Rattle.cf_term.proofs.laws.shift_of_closed.Goals as goal

pub returns : goal.returns
returns c = shift_keeps
