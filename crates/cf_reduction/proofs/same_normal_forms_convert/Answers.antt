use Rattle.cf_reduction.proofs.Conversion.{same_convert}
use Rattle.cf_reduction.proofs.same_normal_forms_convert.Goals as goal

pub returns : goal.returns
returns c = same_convert c.same_decides.ensures
