-- Variables in scope.
use Rattle.std.proofs.Common.{◌≡◌, ℕ, zero, suc, ◌+◌, arith}
use Rattle.cf_core_text.specs.Pieces.{under}

pub under_sum : (d n : ℕ) → under d n ≡ d + n
under_sum d zero = omega arith
under_sum d (suc n) = omega (arith, under_sum d n)
