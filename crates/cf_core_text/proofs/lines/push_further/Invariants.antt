use Rattle.std.proofs.Common.{◌≡◌, ◌++◌, map, drop}
use Rattle.cf_core_text.specs.Pieces.{further, printed}
use Rattle.cf_core_text.proofs.lines.push_further.Given as goal

abbrev pub invariant-loop-field : goal.invariant-loop-field
invariant-loop-field l = l.line.items ++ further (map (printed l.s.globals l.s.depth) (drop l.field-index l.fields)) ≡ l.fn.line.items ++ further (map (printed l.s.globals l.s.depth) l.fields)
