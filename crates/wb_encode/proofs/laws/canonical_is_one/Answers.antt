use Rattle.wb_encode.proofs.Canonical.{canonical_is_one_lem}
use Rattle.wb_encode.proofs.laws.canonical_is_one.Goals as goal

pub returns : goal.returns
returns c = canonical_is_one_lem
