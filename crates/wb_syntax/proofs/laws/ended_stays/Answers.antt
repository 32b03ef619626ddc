use Rattle.wb_syntax.proofs.Longer.{runs_longer, run_main_longer, mach_longer}
use Rattle.wb_syntax.proofs.laws.ended_stays.Goals as goal

pub returns : goal.returns
returns c = record { runs = runs_longer; main = run_main_longer; mach = mach_longer }
