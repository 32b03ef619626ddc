use Rattle.std.proofs.Common.{◌≡◌, drop}
use Rattle.wb_syntax.specs.Runs.{all_i64}
use Rattle.wb_machine.proofs.entry.all_i64.Given as goal

abbrev pub invariant-loop-ty : goal.invariant-loop-ty
invariant-loop-ty l = all_i64 (drop l.ty-index l.types) ≡ all_i64 l.types
