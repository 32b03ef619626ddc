use Rattle.wb_steps.proofs.Storing.{stored_is_loaded, size_stays, bytes_stay, numbers_stay}
use Rattle.wb_steps.proofs.values.numbers_stored.Goals as goal

pub returns : goal.returns
returns c = record { loaded = stored_is_loaded; size = size_stays; bytes = bytes_stay; numbers = numbers_stay }
