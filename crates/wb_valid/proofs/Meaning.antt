-- What the effect of an instruction means for stacks of types.
use Rattle.std.specs.Prelude.{◌≡◌, List, [], ◌∷◌, reverse, Some, slice_get}
use Rattle.wb_syntax.specs.Typing.{Takes, Jumps}
use Rattle.wb_valid.specs.Syntax.{NumType, I32, FuncType, list_of}
use Rattle.wb_valid.specs.Effects.{Effect, Moves, Jumping, Calls, Drops, Selects, Refused, list_of_takings}

-- what an effect means for stacks of types
abbrev pub Does : List FuncType → Effect → (before after : List NumType) → Type 0
Does types (Moves k r) a b = Takes (list_of_takings k) (list_of r) a b
Does types (Jumping k) a b = Jumps (list_of_takings k) a
Does types (Calls i) a b = (ft : FuncType) × (slice_get types i ≡ Some ft) × Takes (reverse ft.params) (list_of ft.result) a b
Does types Drops a b = (t : NumType) × Takes (t ∷ []) [] a b
Does types Selects a b = (t : NumType) × Takes (I32 ∷ t ∷ t ∷ []) (t ∷ []) a b
Does types Refused a b = ⊥
