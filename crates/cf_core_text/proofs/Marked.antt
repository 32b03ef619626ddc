-- A mark is not printed.
use Rattle.std.proofs.Common.{◌≡◌, ℕ, Bool, true, false, refl}
use Rattle.cf_term.specs.Core.{Tm, var, node}
use Rattle.cf_term.specs.View.{marked}
use Rattle.cf_core_text.specs.Pieces.{printed}

pub of_mark : (g d : ℕ) (m : Bool) (t : Tm) → printed g d (marked m t) ≡ printed g d t
of_mark g d m (var i) = refl
of_mark g d false (node h ts) = refl
of_mark g d true (node h ts) = refl
