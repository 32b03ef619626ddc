use Rattle.std.proofs.Common.{◌≡◌, ◌++◌, drop, map}
use Rattle.wb_syntax.specs.Runs.{globals_at_first}
use Rattle.wb_state.specs.Words.{seen}
use Rattle.wb_machine.proofs.opening.first_globals.Given as goal

abbrev pub invariant-loop-global : goal.invariant-loop-global
invariant-loop-global l = map seen l.words.items ++ globals_at_first (drop l.global-index l.globals) ≡ globals_at_first l.globals
