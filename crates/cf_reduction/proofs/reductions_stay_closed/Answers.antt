use Rattle.cf_reduction.proofs.StaysClosed.{stay_closed}
use Rattle.cf_reduction.proofs.reductions_stay_closed.Goals as goal

pub returns : goal.returns
returns c = stay_closed c.closed_among_more.ensures c.renamed_term_is_closed.ensures c.substitution_is_closed.ensures
