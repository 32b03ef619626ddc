use Rattle.cf_object.proofs.EndedStays.{ended_stays_lem}
use Rattle.cf_object.proofs.laws.ended_stays.Goals as goal

pub returns : goal.returns
returns c = ended_stays_lem
