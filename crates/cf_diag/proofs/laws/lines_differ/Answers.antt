use Rattle.cf_diag.proofs.Told.{lines_differ}
use Rattle.cf_diag.proofs.laws.lines_differ.Goals as goal

pub returns : goal.returns
returns c = lines_differ
