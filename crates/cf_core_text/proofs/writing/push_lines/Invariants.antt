use Rattle.std.proofs.Common.{◌≡◌, ◌++◌, drop, string_bytes}
use Rattle.cf_rules.specs.View.{declarations}
use Rattle.cf_core_text.specs.Lines.{lines, line_text}
use Rattle.cf_core_text.specs.Tables.{names_in}
use Rattle.cf_core_text.proofs.writing.push_lines.Given as goal

abbrev pub invariant-loop-decl : goal.invariant-loop-decl
invariant-loop-decl l =
    string_bytes l.out ++ line_text (names_in l.names) (lines l.above.types l.above.globals (declarations (drop l.decl-index l.decls)))
    ≡ string_bytes l.fn.out ++ line_text (names_in l.names) (lines 1 0 (declarations l.decls))
