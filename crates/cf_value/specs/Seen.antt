-- The trees that values and environments are seen as.
use Rattle.std.specs.Prelude.{List, [], ◌∷◌}
use Rattle.cf_value.specs.Heads.{head_of}
use Rattle.cf_value.specs.Val.{Val, VParts, Vals, level, form, none, ready, frozen, empty, push}
use Rattle.cf_value.specs.declared.values.ValueNode.{ValueNode}
use Rattle.cf_value.specs.declared.values.ValueNode.TheVariants as node
use Rattle.cf_value.specs.declared.values.ValuePart.{ValuePart}
use Rattle.cf_value.specs.declared.values.ValuePart.TheVariants as part
use Rattle.cf_value.specs.declared.values.Cell.{Cell}
use Rattle.cf_value.specs.declared.values.Cell.TheVariants as cell

abbrev pub seen_part : ValuePart → VParts → VParts
seen_part (part.Ready v) ps = ready v.value ps
seen_part (part.Kept f) ps = frozen f.env f.body.value ps

abbrev pub seen_parts : List ValuePart → VParts
seen_parts [] = none
seen_parts (p ∷ ps) = seen_part p (seen_parts ps)

abbrev pub seen_value : ValueNode → Val
seen_value (node.Level n) = level n
seen_value (node.Form shape first ps) = form (head_of shape.value) first (seen_parts ps.items)

abbrev pub seen_env : Cell → Vals
seen_env cell.Empty = empty
seen_env (cell.More v e) = push v.value e.value
