use Rattle.wb_steps.proofs.Instructed.{load_law, load_traps, store_law, store_traps, memory_size_law}
use Rattle.wb_steps.proofs.instructions.memory.Goals as goal

pub returns : goal.returns
returns c = record { load = load_law; load_traps = load_traps; store = store_law; store_traps = store_traps; size = memory_size_law }
