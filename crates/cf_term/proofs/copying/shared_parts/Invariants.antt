use Rattle.cf_term.specs.View.{tm_of}
use Rattle.cf_term.specs.Numbered.{places, terms}
use Rattle.cf_term.proofs.Walked.{Walks}
use Rattle.cf_term.proofs.copying.shared_parts.Given as goal

abbrev pub invariant-loop-i : goal.invariant-loop-i
invariant-loop-i l = Walks (λ n t. t) (places (tm_of l.node)) (terms (tm_of l.node)) l.made.items l.i
