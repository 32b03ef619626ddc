use Rattle.cf_term.proofs.Closed.{renaming_keeps}
use Rattle.cf_term.proofs.laws.renaming_of_closed.Goals as goal

pub returns : goal.returns
returns c = renaming_keeps
