-- The constructs that are open in a body, as a reader keeps them.
use Rattle.std.specs.Prelude.{◌≡◌, List, map, reverse, Result, Ok, Err}
use Rattle.wb_syntax.specs.declared.syntax.Instr.{Instr}
use Rattle.wb_syntax.specs.Nesting as nesting
use Rattle.wb_decode.specs.declared.expressions.Open.{Open}
use Rattle.wb_decode.specs.declared.expressions.Open.TheVariants.{FirstBranch, Construct}
use Rattle.wb_decode.specs.declared.expressions.Place.{Place}
use Rattle.wb_decode.specs.declared.expressions.Place.TheVariants.{Inside, Closed, Misplaced}

-- a construct, as the definition of nesting names it
abbrev pub open_of : Open → nesting.Open
open_of FirstBranch = nesting.FirstBranch
open_of Construct = nesting.Construct

-- the open constructs, kept with the innermost last, as the definition has them
abbrev pub opens : List Open → List nesting.Open
opens os = reverse (map open_of os)

-- where an instruction leads, with the constructs that are open before it and after it
abbrev pub LeadsTo : List Open → List Open → Instr → Place → Type 0
LeadsTo before now i Inside = nesting.place_after (opens before) i ≡ nesting.Inside (opens now)
LeadsTo before now i Closed = nesting.place_after (opens before) i ≡ nesting.Closed
LeadsTo before now i Misplaced = nesting.place_after (opens before) i ≡ nesting.Misplaced

-- the same of an answer; want of memory says nothing
abbrev pub Leads : {E : Type 0} → List Open → List Open → Instr → Result Place E → Type 0
Leads before now i (Ok place) = LeadsTo before now i place
Leads before now i (Err e) = Unit {0}
