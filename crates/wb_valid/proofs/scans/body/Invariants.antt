use Rattle.std.proofs.Common.{ℕ, ◌<◌}
use Rattle.wb_syntax.specs.Typing.{Body, IsValid}
use Rattle.wb_valid.proofs.scans.body.Given as goal

abbrev pub invariant-loop-at : goal.invariant-loop-at
invariant-loop-at l = (k : ℕ) → k < l.at → IsValid l.m (Body k)
