use Rattle.cf_reduction.proofs.Written.{reading_reaches}
use Rattle.cf_reduction.proofs.reading_reaches.Goals as goal

pub returns : goal.returns
returns c = reading_reaches
