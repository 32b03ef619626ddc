-- Each part of a value is less high than the value.
use Rattle.std.specs.Prelude.{List, [], ◌∷◌, ◌≤◌, ◌+◌, max}
use Rattle.std.proofs.Common.{arith}
use denote.Param.Weighed.{most}
use Rattle.cf_value.specs.Val.{height, heights, part_heights}
use Rattle.cf_value.specs.Seen.{seen_value, seen_env, seen_parts}
use Rattle.cf_value.specs.declared.values.ValueNode.{ValueNode}
use Rattle.cf_value.specs.declared.values.ValueNode.TheVariants as node
use Rattle.cf_value.specs.declared.values.ValuePart.{ValuePart}
use Rattle.cf_value.specs.declared.values.ValuePart.TheVariants as part
use Rattle.cf_value.specs.declared.values.Cell.{Cell}
use Rattle.cf_value.specs.declared.values.Cell.TheVariants as cell
use Rattle.cf_value.specs.declared.values.Env.TheDeep as deep

pub most_parts : (ps : List ValuePart) → most deep.deep-ValuePart ps ≤ part_heights (seen_parts ps) + 1
most_parts [] = omega arith
most_parts (part.Ready v ∷ ps) = omega (arith, most_parts ps)
most_parts (part.Kept f ∷ ps) = omega (arith, most_parts ps)

pub falls_value : (n : ValueNode) → max (deep.deep-ValueNode n) 0 ≤ height (seen_value n)
falls_value (node.Level n) = omega arith
falls_value (node.Form shape first ps) = omega (arith, most_parts ps.items)

pub falls_env : (n : Cell) → max (deep.deep-Cell n) 0 ≤ heights (seen_env n)
falls_env cell.Empty = omega arith
falls_env (cell.More v e) = omega arith
