use Rattle.std.proofs.Common.{◌≡◌, ◌≤◌, length, reverse, take}
use Rattle.wb_valid.specs.Operands.{pops}
use Rattle.wb_valid.proofs.operands.Operands.pop_all.Given as goal

abbrev pub invariant-loop-left : goal.invariant-loop-left
invariant-loop-left l = record {
  within : l.left ≤ length l.types;
  rest : pops (reverse (take l.left l.types)) l.self ≡ pops (reverse l.types) l.fn.self;
}

abbrev pub decreases-loop-left : goal.decreases-loop-left
decreases-loop-left l = l.left
