-- What is inside a machine.
use Rattle.std.specs.Prelude.{◌≡◌, ℕ, ◌<◌, ◌≤◌, ◌^◌, List, Option, Some, None, IfSome}
use Rattle.wb_syntax.specs.declared.syntax.Module.{Module}
use Rattle.wb_syntax.specs.Runs.{fixed_room, main_arity, status_in}
use Rattle.wb_plain.specs.Follows.{pages_of}
use Rattle.wb_control.specs.declared.run.Run.{Run}
use Rattle.wb_control.specs.Changes.{IsRoomy}

-- a run has room for so many words, and memory has at least its first size, and at most so many pages
pub record IsFor (m : Module) (pages words : ℕ) (r : Run) : Type 0 where
  pub roomy : IsRoomy r
  pub room : r.state.operands.room ≡ words
  pub first : fixed_room m ≤ pages_of r.state.memory
  pub most : pages_of r.state.memory ≤ pages

-- the parameters of main are fewer than 2 ^ 32
abbrev pub HasFewParameters : Module → Type 0
HasFewParameters m = IfSome (main_arity m) (λ n. n < 2 ^ 32)

-- the 32-bit word at address 0, or 0 where there is none
abbrev pub status_of : Option (List ℕ) → ℕ
status_of memory = elim memory [ None ↦ 0 | Some bytes ↦ status_in bytes ]
