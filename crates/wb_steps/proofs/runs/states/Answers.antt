use Rattle.wb_steps.proofs.Stated.{words_of_state, words_in_label, words_in_call, constant_is32, constant_is64, main_begins}
use Rattle.wb_steps.proofs.runs.states.Goals as goal

pub returns : goal.returns
returns c = record {
  words = words_of_state;
  label = words_in_label;
  call = words_in_call;
  constant32 = constant_is32;
  constant64 = constant_is64;
  main = main_begins;
}
