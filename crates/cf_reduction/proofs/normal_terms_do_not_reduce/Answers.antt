use Rattle.cf_reduction.proofs.Irreducible.{irreducible}
use Rattle.cf_reduction.proofs.normal_terms_do_not_reduce.Goals as goal

pub returns : goal.returns
returns c = irreducible
