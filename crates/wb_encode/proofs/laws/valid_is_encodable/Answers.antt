use Rattle.wb_encode.proofs.Validity.{valid_is_encodable}
use Rattle.wb_encode.proofs.laws.valid_is_encodable.Goals as goal

pub returns : goal.returns
returns c = valid_is_encodable c.typed_is_proper.ensures c.well_nested_exactly.ensures
