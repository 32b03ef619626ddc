use Rattle.cf_reduction.proofs.Normal.{bare_unmarked}
use Rattle.cf_reduction.proofs.unmarked_terms_are_bare.Goals as goal

pub returns : goal.returns
returns c = bare_unmarked
