use Rattle.cf_exclusion.proofs.Builds.{one_refusal}
use Rattle.cf_exclusion.proofs.laws.one_refusal_of_build.Goals as goal

pub returns : goal.returns
returns c = one_refusal c.reads_as_one.ensures c.refuses_no_read.ensures c.one_refusal_of_source.ensures
