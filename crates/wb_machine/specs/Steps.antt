-- How a run goes on, and how it ends.
use Rattle.std.specs.Prelude.{◌≡◌, ℕ, List, Option, Some, None, slice_get}
use Rattle.std.specs.Borrow.{Bor}
use Rattle.wb_syntax.specs.declared.syntax.Instr.{Instr}
use Rattle.wb_syntax.specs.declared.syntax.Func.{Func}
use Rattle.wb_syntax.specs.declared.syntax.Module.{Module}
use Rattle.wb_syntax.specs.Execute.{Word, TheStore}
use Rattle.wb_syntax.specs.Runs.{StackFull, Stuck, Trapped, returned}
use Rattle.wb_plain.specs.Effects.{kind_of}
use Rattle.wb_control.specs.declared.run.Flow.{Flow}
use Rattle.wb_control.specs.declared.run.Flow.TheVariants.{Full, Finishes, Traps, Stuck as IsStuck}
use Rattle.wb_machine.specs.Ends.{EndsAs}
use Rattle.wb_machine.specs.declared.ends.MachineEnd.{MachineEnd}

-- this is the body of the function of this index, or there is no such function
abbrev pub FindsBody : Module → ℕ → Option (Bor (List Instr)) → Type 0
FindsBody m x None = slice_get m.funcs x ≡ None
FindsBody m x (Some b) = (f : Func) × (slice_get m.funcs x ≡ Some f) × (f.body ≡ b.now)

-- the run that began with a store and ends so, with these results where its first frame was left, is answered so
abbrev pub Closes : (first : TheStore) → Flow → (results : List Word) → (left : TheStore) → MachineEnd → Type 0
Closes first Full ws s e = EndsAs first (StackFull s) e s
Closes first Finishes ws s e = EndsAs first (returned ws s) e s
Closes first (Traps k) ws s e = EndsAs first (Trapped (kind_of k) s) e s
Closes first IsStuck ws s e = EndsAs first (Stuck s) e s
Closes first _ ws s e = Unit {0}
