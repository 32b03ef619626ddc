use Rattle.wb_steps.proofs.Running.{runs_go_on, runs_end, runs_go_on_or_fill, runs_end_or_fill, full_is_less, full_is_less_at_end, no_end_before}
use Rattle.wb_steps.proofs.runs.bounded_runs.Goals as goal

pub returns : goal.returns
returns c = record {
  go_on = runs_go_on;
  end = runs_end;
  go_on_or_fill = runs_go_on_or_fill;
  end_or_fill = runs_end_or_fill;
  less = full_is_less;
  less_at_end = full_is_less_at_end;
  no_end = no_end_before;
}
