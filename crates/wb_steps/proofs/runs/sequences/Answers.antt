use Rattle.wb_steps.proofs.Sequenced.{step_is_made, last_step_is_made, no_step_stays, steps_follow, end_follows, steps_part, end_stays, steps_with_more_words, end_with_more_words}
use Rattle.wb_steps.proofs.runs.sequences.Goals as goal

pub returns : goal.returns
returns c = record {
  step = step_is_made;
  last = last_step_is_made;
  none = no_step_stays;
  follow = steps_follow;
  end = end_follows;
  part = steps_part;
  stays = end_stays;
  words = steps_with_more_words;
  end_words = end_with_more_words;
}
