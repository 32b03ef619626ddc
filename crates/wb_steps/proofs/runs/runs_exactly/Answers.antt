use Rattle.wb_steps.proofs.Parted.{runs_part, runs_with_more_words, running_has_come, end_has_come, full_exactly}
use Rattle.wb_steps.proofs.runs.runs_exactly.Goals as goal

pub returns : goal.returns
returns c = record { part = runs_part; words = runs_with_more_words; running = running_has_come; answered = end_has_come; full = full_exactly }
