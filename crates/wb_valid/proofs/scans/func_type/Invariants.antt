use Rattle.std.proofs.Common.{ℕ, ◌<◌}
use Rattle.wb_syntax.specs.Typing.{FuncTypeOf, IsValid}
use Rattle.wb_valid.proofs.scans.func_type.Given as goal

abbrev pub invariant-loop-at : goal.invariant-loop-at
invariant-loop-at l = (k : ℕ) → k < l.at → IsValid l.m (FuncTypeOf k)
