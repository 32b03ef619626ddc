-- Labels and frames that wait.
use Rattle.std.specs.Prelude.{ℕ, List}
pub use Rattle.wb_control.specs.declared.run.Label.{Label}
pub use Rattle.wb_control.specs.declared.run.Place.{Place}
pub use Rattle.wb_control.specs.declared.run.Caller.{Caller}

-- labels, the innermost first, and for how many there is room
pub record LabelPile : Type 0 where
  pub items : List Label
  pub room : ℕ

-- frames, the innermost first, and for how many there is room
pub record CallerPile : Type 0 where
  pub items : List Caller
  pub room : ℕ
