use Rattle.std.proofs.Common.{◌≡◌, drop, map}
use Rattle.std.specs.Prelude.{◌∷◌}
use Rattle.wb_valid.specs.Checking.{label}
use Rattle.wb_valid.specs.Effects.{all_carry}
use Rattle.wb_valid.proofs.effects.all_carry.Given as goal

abbrev pub invariant-loop-index : goal.invariant-loop-index
invariant-loop-index l = all_carry (map label (l.current ∷ l.outer)) l.carried (drop l.index-index l.labels) ≡ all_carry (map label (l.current ∷ l.outer)) l.carried l.labels
