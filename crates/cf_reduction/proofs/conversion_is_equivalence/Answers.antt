use Rattle.cf_reduction.proofs.Conversion.{equivalence}
use Rattle.cf_reduction.proofs.conversion_is_equivalence.Goals as goal

pub returns : goal.returns
returns c = equivalence
