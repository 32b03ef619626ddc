-- Laws of agreement.
use Rattle.std.specs.Prelude.{◌≡◌, ℕ, List, ℤ}
use Rattle.cf_base.specs.declared.outcome.Outcome.{Outcome}
use Rattle.cf_object.specs.Program.{ObjDecl, EndsWithin}
use Rattle.wb_syntax.specs.declared.syntax.Module.{Module}
use Rattle.wb_syntax.specs.Runs.{RunEnd}
use Rattle.cf_agreement.specs.Agreement.{Agrees, IsOver, AreArguments, EndsAlike}

-- an end that agrees with an outcome is over
abbrev pub AgreeingIsOver : Type 0
AgreeingIsOver = (o : Outcome) (e : RunEnd) → Agrees o e → IsOver e

-- an end agrees with at most one outcome
abbrev pub OneOutcome : Type 0
OneOutcome = (o p : Outcome) (e : RunEnd) → Agrees o e → Agrees p e → o ≡ p

-- two programs that one module ends as have the same outcomes
abbrev pub SameOutcomes : Type 0
SameOutcomes = (program other : List ObjDecl) (arity region : ℕ) (m : Module) → EndsAlike program arity region m → EndsAlike other arity region m
    → (args : List ℤ) → AreArguments arity args → (n : ℕ) (o : Outcome) → EndsWithin program args region n o → (k : ℕ) × EndsWithin other args region k o
