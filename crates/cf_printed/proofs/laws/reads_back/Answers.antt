use Rattle.cf_printed.proofs.ReadBack.{read_back}
use Rattle.cf_printed.proofs.laws.reads_back.Goals as goal

pub returns : goal.returns
returns c = read_back
