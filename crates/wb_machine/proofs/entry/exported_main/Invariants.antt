use Rattle.std.proofs.Common.{◌≡◌, drop}
use Rattle.wb_syntax.specs.Runs.{main_name, exported_func}
use Rattle.wb_machine.proofs.entry.exported_main.Given as goal

abbrev pub invariant-loop-export : goal.invariant-loop-export
invariant-loop-export l = exported_func main_name (drop l.export-index l.exports) ≡ exported_func main_name l.exports
