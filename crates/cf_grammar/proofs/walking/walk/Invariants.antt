use Rattle.std.proofs.Common.{drop, length, reverse}
use Rattle.cf_grammar.proofs.Falling.{work}
use Rattle.cf_grammar.proofs.Following.{Going}
use Rattle.cf_grammar.proofs.Standing.{Standing}
use Rattle.cf_grammar.proofs.walking.walk.Given as goal

abbrev pub invariant-loop-symbol : goal.invariant-loop-symbol
invariant-loop-symbol l = record {
  stands : Standing l.classes (reverse l.stack.items) (drop l.at l.classes) l.at;
  going : Going l.classes (reverse l.stack.items) (drop l.at l.classes) l.steps.items;
}

abbrev pub decreases-loop-symbol : goal.decreases-loop-symbol
decreases-loop-symbol l = work (reverse l.stack.items) (length (drop l.at l.classes))
