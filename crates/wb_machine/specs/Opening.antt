-- What a new machine is.
use Rattle.std.specs.Prelude.{◌≡◌, ℕ, ◌<◌, ◌≤◌, Result, Ok, Err, Option, Some, None}
use Rattle.wb_syntax.specs.declared.syntax.Module.{Module}
use Rattle.wb_syntax.specs.Runs.{store_at_first, fixed_room}
use Rattle.wb_machine.specs.Model.{Machine-model}
use Rattle.wb_machine.specs.declared.ends.OpenEnd.{OpenEnd}
use Rattle.wb_machine.specs.declared.ends.OpenEnd.TheVariants.{TooMuchMemory, NoMemory}

-- the most pages that a memory may begin with
abbrev pub most_pages : ℕ
most_pages = 1024

-- the machine of a module at its beginning, whose memory is no larger than it may be; or the memory is larger; want of
-- memory tells nothing
abbrev pub IsOpened : Module → (words : ℕ) → Result Machine-model OpenEnd → Type 0
IsOpened m words (Ok x) = (x ≡ record { module_ = m; words = words; store = store_at_first m }) × (fixed_room m ≤ most_pages)
IsOpened m words (Err (TooMuchMemory n)) = (n ≡ fixed_room m) × (most_pages < n)
IsOpened m words (Err NoMemory) = Unit {0}

-- the arguments are as many as main takes, where there is a main
abbrev pub IsCalledWith : Option ℕ → (count : ℕ) → Type 0
IsCalledWith None count = Unit {0}
IsCalledWith (Some n) count = count ≡ n
