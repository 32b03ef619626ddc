use Rattle.std.proofs.Common.{length}
use Rattle.cf_lex.specs.Naming.{bytes_of}
use Rattle.cf_lex.proofs.Progress.{Progress}
use Rattle.cf_lex.proofs.lexing.pieces.Given as goal

abbrev pub invariant-loop-rest : goal.invariant-loop-rest
invariant-loop-rest l = Progress l.chars l.rest l.at l.tokens.items (bytes_of l.names.keys)

abbrev pub decreases-loop-rest : goal.decreases-loop-rest
decreases-loop-rest l = length l.rest
