use Rattle.std.proofs.Common.{◌≡◌, ◌++◌, drop, string_bytes}
use Rattle.cf_core_text.specs.Text.{joined}
use Rattle.cf_core_text.specs.Tables.{names_in, text_behind}
use Rattle.cf_core_text.proofs.spelling.push_line.Given as goal

abbrev pub invariant-loop-token : goal.invariant-loop-token
invariant-loop-token l = string_bytes l.out ++ text_behind (names_in l.names) l.previous (drop l.token-index l.line) ≡ string_bytes l.fn.out ++ joined (names_in l.names) l.line
