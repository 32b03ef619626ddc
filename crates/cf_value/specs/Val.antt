-- Values as trees: a level, or a form with its parts, where the first object variable that it binds in a part has the level `first`,
-- and further ones have the next levels. A part is a value, or a term that is frozen with the values of its variables.
use Rattle.std.specs.Prelude.{ℕ, ◌+◌, max}
use Rattle.cf_term.specs.Core.{Tm, Head}

mutual
  pub data Val : Type 0 where
    level : ℕ → Val
    form : Head → (first : ℕ) → VParts → Val

  pub data VParts : Type 0 where
    none : VParts
    ready : Val → VParts → VParts
    frozen : Vals → Tm → VParts → VParts

  -- an environment, the value pushed last first
  pub data Vals : Type 0 where
    empty : Vals
    push : Val → Vals → Vals

-- how many parts there are
abbrev pub parts_in : VParts → ℕ
parts_in none = 0
parts_in (ready v ps) = parts_in ps + 1
parts_in (frozen e t ps) = parts_in ps + 1

-- how many values an environment has
abbrev pub values_in : Vals → ℕ
values_in empty = 0
values_in (push v e) = values_in e + 1

-- how high a tree is: each part is less high than its whole
abbrev mutual
  pub height : Val → ℕ
  height (level n) = 1
  height (form h l ps) = part_heights ps + 1

  pub part_heights : VParts → ℕ
  part_heights none = 0
  part_heights (ready v ps) = max (height v) (part_heights ps)
  part_heights (frozen e t ps) = max (heights e) (part_heights ps)

  pub heights : Vals → ℕ
  heights empty = 0
  heights (push v e) = max (height v) (heights e) + 1
