use Rattle.wb_encode.proofs.Canonical.{canonical_has_items_lem}
use Rattle.wb_encode.proofs.laws.canonical_has_items.Goals as goal

pub returns : goal.returns
returns c = canonical_has_items_lem
