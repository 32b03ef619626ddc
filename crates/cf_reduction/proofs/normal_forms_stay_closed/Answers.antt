use Rattle.cf_reduction.proofs.StaysClosed.{normal_closed}
use Rattle.cf_reduction.proofs.normal_forms_stay_closed.Goals as goal

pub returns : goal.returns
returns c = normal_closed c.bare_term_is_closed.ensures c.reductions_stay_closed.ensures
