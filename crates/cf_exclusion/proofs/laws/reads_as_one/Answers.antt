use Rattle.cf_exclusion.proofs.Unread.{reads_as_one}
use Rattle.cf_exclusion.proofs.laws.reads_as_one.Goals as goal

pub returns : goal.returns
returns c = reads_as_one c.lexes_one.ensures c.reads_one.ensures
