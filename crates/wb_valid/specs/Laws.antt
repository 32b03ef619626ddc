-- Laws of validity.
use Rattle.std.specs.Prelude.{◌≡◌}
use Rattle.wb_syntax.specs.Typing.{Part, Valid, IsFirstInvalid}
use Rattle.wb_valid.specs.Syntax.{Module}

-- no two parts of a module are the first that is not valid
abbrev pub FirstIsOne : Type 0
FirstIsOne = (m : Module) (p q : Part) → IsFirstInvalid m p → IsFirstInvalid m q → p ≡ q

-- a valid module has no part that is not valid
abbrev pub ValidHasNone : Type 0
ValidHasNone = (m : Module) (p : Part) → Valid m → IsFirstInvalid m p → ⊥
