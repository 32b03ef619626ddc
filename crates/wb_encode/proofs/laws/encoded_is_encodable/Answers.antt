use Rattle.wb_encode.proofs.Writable.{encoded_is_encodable_lem}
use Rattle.wb_encode.proofs.laws.encoded_is_encodable.Goals as goal

pub returns : goal.returns
returns c = encoded_is_encodable_lem
