use Rattle.cf_term.proofs.UnderBinders.{shift-by-nothing}
use Rattle.cf_term.proofs.laws.shift_by_nothing.Goals as goal

pub returns : goal.returns
returns c = shift-by-nothing
