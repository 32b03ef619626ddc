use Rattle.wb_valid.proofs.One.{first_is_one, valid_has_none}
use Rattle.wb_valid.proofs.laws.first_is_one.Goals as goal

pub returns : goal.returns
returns c = record { one = first_is_one; none = valid_has_none }
