use Rattle.cf_exclusion.proofs.Builds.{refuses_no_built}
use Rattle.cf_exclusion.proofs.laws.refuses_no_built.Goals as goal

pub returns : goal.returns
returns c = refuses_no_built c.reads_as_one.ensures c.refuses_no_read.ensures
