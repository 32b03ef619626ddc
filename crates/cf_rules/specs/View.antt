-- The plain data that a program is seen as.
use Rattle.std.specs.Prelude.{List, [], ◌∷◌, string_bytes}
use Rattle.cf_rules.specs.Programs.{Declaration, DataC, MetaC, ObjectC}
use Rattle.cf_rules.specs.declared.programs.CoreDecl.{CoreDecl}
use Rattle.cf_rules.specs.declared.programs.CoreDecl.TheVariants as decl

abbrev pub declaration : CoreDecl → Declaration
declaration (decl.DataC d) = DataC d
declaration (decl.MetaC name ty body) = MetaC (string_bytes name) ty body
declaration (decl.ObjectC name ty body) = ObjectC (string_bytes name) ty body

abbrev pub declarations : List CoreDecl → List Declaration
declarations [] = []
declarations (d ∷ ds) = declaration d ∷ declarations ds
