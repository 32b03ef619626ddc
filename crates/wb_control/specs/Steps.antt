-- What control instructions do to a run.
use Rattle.std.specs.Prelude.{ℕ, true, false, ◌==◌, List, Option, Some, None, slice_get}
use Rattle.wb_syntax.specs.declared.syntax.NumType.{NumType}
use Rattle.wb_syntax.specs.declared.syntax.NumType.TheVariants.{I32}
use Rattle.wb_syntax.specs.declared.syntax.Instr.{Instr}
use Rattle.wb_syntax.specs.declared.syntax.Instr.TheVariants.{Block, Loop, If, Else, End, Br, BrIf, BrTable, Return, Call}
use Rattle.wb_syntax.specs.declared.syntax.Module.{Module}
use Rattle.wb_syntax.specs.Execute.{chosen}
use Rattle.wb_state.specs.Stack.{Taken, take_word}
use Rattle.wb_code.specs.declared.leading.Jump.{Jump}
use Rattle.wb_control.specs.Changes.{Run, Change, Leads, Fails, at_place, with_stack, entered, left_label, returned, ended, branched}
use Rattle.wb_control.specs.Calls.{is_there, called}

-- the jump of the instruction at an index of a function's body
abbrev pub jump_of : List (List Jump) → (func at : ℕ) → Option Jump
jump_of js x at = elim (slice_get js x) [ None ↦ None | Some j ↦ slice_get j at ]

-- a block is entered
abbrev pub blocked : Option NumType → (next : ℕ) → Run → Option Jump → Change
blocked t next r None = Fails
blocked t next r (Some j) = Leads (entered (is_there t) j.past next r)

-- the first branch of an if is left
abbrev pub passed_over : Run → Option Jump → Change
passed_over r None = Fails
passed_over r (Some j) = left_label j.past r r.labels.items

-- a branch of an if is entered, by a number that was taken
abbrev pub chosen_by : Option NumType → (next : ℕ) → Run → Jump → Option Taken → Change
chosen_by t next r j None = Fails
chosen_by t next r j (Some n) = Leads (entered (is_there t) j.past (elim (n.bits == 0) [ true ↦ j.other | false ↦ next ]) (with_stack r n.left))

-- an if
abbrev pub tested : Option NumType → (next : ℕ) → Run → Option Jump → Change
tested t next r None = Fails
tested t next r (Some j) = chosen_by t next r j (take_word I32 r.state.operands)

-- a branch where a number that was taken is not zero
abbrev pub branched_if : (index next : ℕ) → Run → Option Taken → Change
branched_if index next r None = Fails
branched_if index next r (Some n) = elim (n.bits == 0) [ true ↦ Leads (at_place (with_stack r n.left) next) | false ↦ branched index (with_stack r n.left) ]

-- a branch by a table, at a number that was taken
abbrev pub branched_by : List ℕ → (last : ℕ) → Run → Option Taken → Change
branched_by ls l r None = Fails
branched_by ls l r (Some n) = branched (chosen ls l n.bits) (with_stack r n.left)

-- a control instruction
abbrev pub controlled : Module → List (List Jump) → (next : ℕ) → Run → Instr → Change
controlled m js next r (Block t) = blocked t next r (jump_of js r.place.func r.place.at)
controlled m js next r (Loop t) = Leads (entered false r.place.at next r)
controlled m js next r (If t) = tested t next r (jump_of js r.place.func r.place.at)
controlled m js next r Else = passed_over r (jump_of js r.place.func r.place.at)
controlled m js next r End = ended next r
controlled m js next r (Br l) = branched l r
controlled m js next r (BrIf l) = branched_if l next r (take_word I32 r.state.operands)
controlled m js next r (BrTable ls l) = branched_by ls l r (take_word I32 r.state.operands)
controlled m js next r Return = returned r
controlled m js next r (Call x) = called m x next r
controlled m js next r _ = Fails
