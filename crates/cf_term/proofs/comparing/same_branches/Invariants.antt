use Rattle.cf_term.proofs.Compared.{SameHeads}
use Rattle.cf_term.proofs.comparing.same_branches.Given as goal

abbrev pub invariant-loop-i : goal.invariant-loop-i
invariant-loop-i l = SameHeads l.a l.b l.i
