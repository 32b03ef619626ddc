use Rattle.wb_steps.proofs.Controlled.{return_law, last_return_law, frame_is_left, last_frame_is_left}
use Rattle.wb_steps.proofs.instructions.returns.Goals as goal

pub returns : goal.returns
returns c = record { back = return_law; last = last_return_law; left = frame_is_left; last_left = last_frame_is_left }
