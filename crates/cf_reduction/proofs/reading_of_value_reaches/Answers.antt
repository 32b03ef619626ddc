use Rattle.cf_reduction.proofs.Written.{value_read_reaches}
use Rattle.cf_reduction.proofs.reading_of_value_reaches.Goals as goal

pub returns : goal.returns
returns c = value_read_reaches
