use Rattle.cf_value.proofs.Closed.{value_closed}
use Rattle.cf_value.proofs.laws.value_is_closed.Goals as goal

pub returns : goal.returns
returns c = value_closed c.bare_term_is_closed.ensures c.substitution_is_closed.ensures
