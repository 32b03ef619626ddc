use Rattle.std.proofs.Common.{◌≡◌, take}
use Rattle.cf_syntax.specs.Tokens.{classes, tokens_of}
use Rattle.cf_syntax.proofs.source.Source.classes.Given as goal

abbrev pub invariant-loop-at : goal.invariant-loop-at
invariant-loop-at l = l.classes.items ≡ classes (take l.at (tokens_of l.self.tokens.now))
