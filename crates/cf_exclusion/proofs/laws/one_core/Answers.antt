use Rattle.cf_exclusion.proofs.Cores.{one_core}
use Rattle.cf_exclusion.proofs.laws.one_core.Goals as goal

pub returns : goal.returns
returns c = one_core c.reads_as_one.ensures
