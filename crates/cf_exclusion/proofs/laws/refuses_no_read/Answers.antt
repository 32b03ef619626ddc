use Rattle.cf_exclusion.proofs.Unread.{refuses_no_read}
use Rattle.cf_exclusion.proofs.laws.refuses_no_read.Goals as goal

pub returns : goal.returns
returns c = refuses_no_read c.lexes_one.ensures
