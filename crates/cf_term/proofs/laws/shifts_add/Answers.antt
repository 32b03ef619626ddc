use Rattle.cf_term.proofs.UnderBinders.{shifts-add}
use Rattle.cf_term.proofs.laws.shifts_add.Goals as goal

pub returns : goal.returns
returns c = shifts-add
