use Rattle.cf_printed.proofs.Cores.{cores_scoped}
use Rattle.cf_printed.proofs.laws.cores_are_scoped.Goals as goal

pub returns : goal.returns
returns c = cores_scoped
