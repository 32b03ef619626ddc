use Rattle.cf_exclusion.proofs.Cores.{refuses_no_core}
use Rattle.cf_exclusion.proofs.laws.refuses_no_core.Goals as goal

pub returns : goal.returns
returns c = refuses_no_core c.reads_as_one.ensures c.refuses_no_read.ensures
