use Rattle.cf_simulation.proofs.Followed.{follows_keeps_lem}
use Rattle.cf_simulation.proofs.laws.follows_keeps.Goals as goal

pub returns : goal.returns
returns g c = follows_keeps_lem _ _ _
