use Rattle.std.proofs.Common.{◌≡◌, ◌++◌, drop}
use Rattle.cf_core_text.specs.Lines.{constructors}
use Rattle.cf_core_text.proofs.lines.push_constructors.Given as goal

abbrev pub invariant-loop-number : goal.invariant-loop-number
invariant-loop-number l =
    l.line.items ++ constructors l.s.globals l.s.depth l.data_type l.number (drop l.number l.ctors) ≡ l.fn.line.items ++ constructors l.s.globals l.s.depth l.data_type 0 l.ctors
