use Rattle.std.proofs.Common.{ℕ, ◌<◌, slice_get, IfSome}
use Rattle.wb_syntax.specs.Typing.{AreLimits}
use Rattle.wb_valid.proofs.scans.memory_limits.Given as goal

abbrev pub invariant-loop-at : goal.invariant-loop-at
invariant-loop-at l = (k : ℕ) → k < l.at → IfSome (slice_get l.m.memories k) AreLimits
