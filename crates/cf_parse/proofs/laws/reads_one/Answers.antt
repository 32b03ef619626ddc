use Rattle.cf_parse.proofs.Unique.{reads_one}
use Rattle.cf_parse.proofs.laws.reads_one.Goals as goal

pub returns : goal.returns
returns c = reads_one
