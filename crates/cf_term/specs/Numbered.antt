-- The parts of a form by number.
use Rattle.std.specs.Prelude.{ℕ, zero, suc, ◌+◌, ◌≡◌, List, [], Option, Some, None}
use Rattle.cf_term.specs.Core.{Tm, var, node, Tms, nil, cons, Part, parts, first_part, rest_parts}
use Rattle.cf_term.specs.declared.parts.Part as seen

-- a part: how many variables it is under, whether it is kept, and the term
pub record Placed : Type 0 where
  pub place : Part
  pub term : Tm

-- the term with number i, and where it stands
abbrev pub part_at : List Part → Tms → ℕ → Option Placed
part_at ps nil i = None
part_at ps (cons t ts) zero = Some (record { place = first_part ps; term = t })
part_at ps (cons t ts) (suc i) = part_at (rest_parts ps) ts i

-- where the parts of a term stand; a variable has none
abbrev pub places : Tm → List Part
places (var x) = []
places (node h ts) = parts h

-- the parts of a term; a variable has none
abbrev pub terms : Tm → Tms
terms (var x) = nil
terms (node h ts) = ts

-- the part of a term with number i
abbrev pub part_of : Tm → ℕ → Option Placed
part_of t i = part_at (places t) (terms t) i

-- how many terms there are
abbrev pub length_of : Tms → ℕ
length_of nil = 0
length_of (cons t ts) = length_of ts + 1

-- how many parts a term has
abbrev pub count : Tm → ℕ
count t = length_of (terms t)

-- the same form with other parts
abbrev pub with_terms : Tm → Tms → Tm
with_terms (var x) us = var x
with_terms (node h ts) us = node h us

-- the variable, where the term is one
abbrev pub variable_of : Tm → Option ℕ
variable_of (var x) = Some x
variable_of (node h ts) = None

-- what is answered for a part is that part
abbrev pub IsPart : Option (seen.Part) → Option Placed → Type 0
IsPart None None = Unit {0}
IsPart None (Some q) = ⊥
IsPart (Some p) None = ⊥
IsPart (Some p) (Some q) = (p.binds ≡ q.place.binds) × (p.kept ≡ q.place.kept) × (p.term.now.value ≡ q.term)
