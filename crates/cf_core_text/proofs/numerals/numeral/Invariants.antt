use Rattle.std.proofs.Common.{◌≡◌, ℕ}
use Rattle.cf_core_text.specs.Pieces.{printed}
use Rattle.cf_core_text.proofs.Successors.{more}
use Rattle.cf_core_text.proofs.numerals.numeral.Given as goal

abbrev pub invariant-loop-rest : goal.invariant-loop-rest
invariant-loop-rest l = (g d : ℕ) → (printed g d l.term).number ≡ more l.count (printed g d l.rest).number
