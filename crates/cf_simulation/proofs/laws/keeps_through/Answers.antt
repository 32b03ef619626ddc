use Rattle.cf_simulation.proofs.Followed.{keeps_through_lem}
use Rattle.cf_simulation.proofs.laws.keeps_through.Goals as goal

pub returns : goal.returns
returns g c = keeps_through_lem g.A.Related.agrees g.B.Related.agrees g.A.Related.beside g.B.Related.beside
