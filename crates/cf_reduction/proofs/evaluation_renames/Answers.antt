use Rattle.cf_reduction.proofs.Renamed.{evaluation_renames}
use Rattle.cf_reduction.proofs.evaluation_renames.Goals as goal

pub returns : goal.returns
returns c = evaluation_renames c.renaming_of_substituted.ensures c.substitution_of_renamed.ensures
