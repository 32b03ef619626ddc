use Rattle.cf_printed.proofs.Only.{read_only}
use Rattle.cf_printed.proofs.laws.reads_only.Goals as goal

pub returns : goal.returns
returns c = read_only c.lexes_one.ensures c.reads_one.ensures
