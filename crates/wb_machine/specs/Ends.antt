-- How the end of a run is answered.
use Rattle.std.specs.Prelude.{◌≡◌}
use Rattle.wb_syntax.specs.Execute.{TheStore, TrapKind, Unreached, DivideByZero, Overflow, OutOfBounds}
use Rattle.wb_syntax.specs.Runs.{RunEnd, Returned, Trapped, StackFull, Stuck, Running, NoMain}
use Rattle.wb_plain.specs.declared.outcome.TrapKind.{TrapKind as TheKind}
use Rattle.wb_plain.specs.declared.outcome.TrapKind.TheVariants.{Unreachable as OfUnreachable, DivideByZero as OfDivideByZero, Overflow as OfOverflow, OutOfBounds as OfOutOfBounds}
use Rattle.wb_machine.specs.declared.ends.MachineEnd.{MachineEnd}
use Rattle.wb_machine.specs.declared.ends.MachineEnd.TheVariants.{Returned as DoesReturn, Trap as DoesTrap, StepLimit as IsLimited, StackFull as IsFull, Stuck as IsStuck, NoMain as HasNoMain}

-- why a run traps, as it is answered
abbrev pub trap_of : TrapKind → TheKind
trap_of Unreached = OfUnreachable
trap_of DivideByZero = OfDivideByZero
trap_of Overflow = OfOverflow
trap_of OutOfBounds = OfOutOfBounds

-- the end of a run that began with a store is answered so, and leaves this store
abbrev pub EndsAs : (first : TheStore) → RunEnd → MachineEnd → (left : TheStore) → Type 0
EndsAs first (Returned z s) e left = (e ≡ DoesReturn z) × (left ≡ s)
EndsAs first (Trapped k s) e left = (e ≡ DoesTrap (trap_of k)) × (left ≡ s)
EndsAs first (StackFull s) e left = (e ≡ IsFull) × (left ≡ s)
EndsAs first (Stuck s) e left = (e ≡ IsStuck) × (left ≡ s)
EndsAs first (Running c) e left = (e ≡ IsLimited) × (left ≡ c.store)
EndsAs first NoMain e left = (e ≡ HasNoMain) × (left ≡ first)
