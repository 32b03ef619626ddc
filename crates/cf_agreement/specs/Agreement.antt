-- When a module does what a program does.
use Rattle.std.specs.Prelude.{◌≡◌, ◌⊎◌, ℕ, List, length, All, ℤ, FitsSigned}
use Rattle.std.specs.Int.{w64}
use Rattle.cf_base.specs.declared.outcome.Outcome.{Outcome}
use Rattle.cf_base.specs.declared.outcome.Outcome.TheVariants as outcome
use Rattle.cf_object.specs.Program.{ObjDecl, EndsWithin}
use Rattle.wb_syntax.specs.declared.syntax.Module.{Module}
use Rattle.wb_syntax.specs.Execute.{TheStore, Unreached, DivideByZero, Overflow}
use Rattle.wb_syntax.specs.Runs.{RunEnd, Returned, Trapped, HasEnded, IsStackFull, mach, status}

-- an outcome of the program, and an end of the module's run that agrees with it
pub data Agrees : Outcome → RunEnd → Type 0 where
  returned : (z : ℤ) (s : TheStore) → Agrees (outcome.Returned z) (Returned z s)
  divided_by_zero : (s : TheStore) → Agrees outcome.DivideByZero (Trapped DivideByZero s)
  overflowed : (s : TheStore) → Agrees outcome.Overflow (Trapped Overflow s)
  -- the status word tells a full heap and `fail` apart
  heap_full : (s : TheStore) → status s ≡ 1 → Agrees outcome.HeapFull (Trapped Unreached s)
  failed : (s : TheStore) → status s ≡ 2 → Agrees outcome.Failed (Trapped Unreached s)

-- the module's run has come to an end, and not for want of words
abbrev pub IsOver : RunEnd → Type 0
IsOver e = HasEnded e × (IsStackFull e → ⊥)

-- so many numbers of 64 bits
pub record AreArguments (arity : ℕ) (args : List ℤ) : Type 0 where
  pub count : length args ≡ arity
  pub fit : All (FitsSigned w64) args

-- On all arguments the module ends as the program does, each if the other, whatever the words of its stack;
-- but that its words may not suffice, and for each run of the program there are words that do.
pub record EndsAlike (program : List ObjDecl) (arity region : ℕ) (m : Module) : Type 0 where
  pub forth : (args : List ℤ) → AreArguments arity args → (n : ℕ) (o : Outcome) → EndsWithin program args region n o →
      (words : ℕ) → (k : ℕ) × (Agrees o (mach m args words k) ⊎ IsStackFull (mach m args words k))
  pub back : (args : List ℤ) → AreArguments arity args → (words k : ℕ) → IsOver (mach m args words k) →
      (n : ℕ) × (o : Outcome) × EndsWithin program args region n o × Agrees o (mach m args words k)
  pub room : (args : List ℤ) → AreArguments arity args → (n : ℕ) (o : Outcome) → EndsWithin program args region n o →
      (words : ℕ) × (k : ℕ) × Agrees o (mach m args words k)
