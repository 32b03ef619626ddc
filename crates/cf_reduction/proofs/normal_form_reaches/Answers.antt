use Rattle.cf_reduction.proofs.Written.{normal_form_reaches}
use Rattle.cf_reduction.proofs.normal_form_reaches.Goals as goal

pub returns : goal.returns
returns c = normal_form_reaches
