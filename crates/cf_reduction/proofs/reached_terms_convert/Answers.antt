use Rattle.cf_reduction.proofs.Conversion.{reached_converts}
use Rattle.cf_reduction.proofs.reached_terms_convert.Goals as goal

pub returns : goal.returns
returns c = reached_converts
