-- Running sums of the counts of locals.
use Rattle.std.specs.Prelude.{◌+◌, ℕ, List, [], ◌∷◌}
use Rattle.wb_valid.specs.Syntax.{LocalRun}

-- how many locals there are up to the end of each run, and so many before the first
abbrev pub running_sums : ℕ → List LocalRun → List ℕ
running_sums n [] = []
running_sums n (r ∷ rs) = (n + r.count) ∷ running_sums (n + r.count) rs
