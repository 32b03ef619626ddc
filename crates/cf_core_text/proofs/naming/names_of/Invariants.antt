use Rattle.std.proofs.Common.{◌≡◌, ◌++◌, ◌∷◌, drop}
use Rattle.cf_rules.specs.View.{declarations}
use Rattle.cf_core_text.specs.Names.{data_types, global_names}
use Rattle.cf_core_text.specs.Tables.{names_in}
use Rattle.cf_core_text.proofs.naming.names_of.Given as goal

abbrev pub invariant-loop-decl : goal.invariant-loop-decl
invariant-loop-decl l = record {
  types : (names_in l.names).types ++ data_types (declarations (drop l.decl-index l.decls)) ≡ l.flag ∷ data_types (declarations l.decls);
  globals : (names_in l.names).globals ++ global_names (declarations (drop l.decl-index l.decls)) ≡ global_names (declarations l.decls);
}
