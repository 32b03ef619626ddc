use Rattle.std.proofs.Common.{◌≡◌, length}
use Rattle.wb_machine.proofs.First.{LeadBelow}
use Rattle.wb_machine.proofs.opening.all_jumps.Given as goal

abbrev pub invariant-loop-func : goal.invariant-loop-func
invariant-loop-func l = record {
  count : length l.all ≡ l.func-index;
  lead : LeadBelow l.funcs l.all l.func-index;
}
