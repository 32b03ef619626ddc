use Rattle.cf_term.proofs.Closed.{renamed}
use Rattle.cf_term.proofs.laws.renamed_term_is_closed.Goals as goal

pub returns : goal.returns
returns c = renamed
