use Rattle.cf_exclusion.proofs.Refused.{refuses_no_program}
use Rattle.cf_exclusion.proofs.laws.refuses_no_program.Goals as goal

pub returns : goal.returns
returns c = refuses_no_program
