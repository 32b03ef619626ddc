-- Lists of parts that have no hole.
use Rattle.std.specs.Prelude.{Bool, ◌&&◌}
use Rattle.cf_tree.specs.Tree.{hole_free}
use Rattle.cf_tree.specs.declared.forms.Branch.{Branch}
use Rattle.cf_tree.specs.declared.forms.Definition.{Definition}

abbrev pub branch_hole_free : Branch → Bool
branch_hole_free b = hole_free b.body.value

abbrev pub definition_hole_free : Definition → Bool
definition_hole_free d = hole_free d.ty.value && hole_free d.value.value
