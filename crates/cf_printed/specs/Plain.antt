-- Programs without marks, and with each `implicit` flag false: those that differ in these alone count as one.
use Rattle.std.specs.Prelude.{List, map}
use Rattle.cf_term.specs.Same.{plain}
use Rattle.cf_rules.specs.Programs.{Constructor, Declaration, DataC, MetaC, ObjectC}

abbrev pub plain_constructor : Constructor → Constructor
plain_constructor c = record { name = c.name; fields = map plain c.fields }

abbrev pub plain_declaration : Declaration → Declaration
plain_declaration (DataC d) = DataC (record { name = d.name; params = d.params; ctors = map plain_constructor d.ctors })
plain_declaration (MetaC x a t) = MetaC x (plain a) (plain t)
plain_declaration (ObjectC x a t) = ObjectC x (plain a) (plain t)

abbrev pub plain_program : List Declaration → List Declaration
plain_program ds = map plain_declaration ds
