use Rattle.cf_term.specs.Same.{plain}
use Rattle.cf_term.proofs.Equal.{equal_is}
use Rattle.cf_term.proofs.laws.same_decides.Goals as goal

pub returns : goal.returns
returns c = λ t u. equal_is (plain t) (plain u)
