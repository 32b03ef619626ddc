use Rattle.std.proofs.Common.{◌≡◌, length, drop, map}
use Rattle.wb_syntax.specs.Execute.{have_types}
use Rattle.wb_state.specs.Words.{seen}
use Rattle.wb_control.proofs.calls.have_types.Given as goal

abbrev pub invariant-loop-i : goal.invariant-loop-i
invariant-loop-i l = record {
  same : length l.words ≡ length l.types;
  counted : l.count ≡ length l.types;
  rest : have_types (drop l.i l.types) (map seen (drop l.i l.words)) ≡ have_types l.types (map seen l.words);
}
