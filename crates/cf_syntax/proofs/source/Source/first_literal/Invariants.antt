use Rattle.std.proofs.Common.{◌≡◌, ◌≤◌, ◌-◌, length, take, true}
use Rattle.std.specs.List.{list_all}
use Rattle.cf_syntax.specs.Checks.{token_in_range}
use Rattle.cf_syntax.specs.Tokens.{tokens_of}
use Rattle.cf_syntax.proofs.source.Source.first_literal.Given as goal

abbrev pub invariant-loop-at : goal.invariant-loop-at
invariant-loop-at l = (l.at ≤ length l.self.tokens.now.tokens) × (list_all token_in_range (take l.at (tokens_of l.self.tokens.now)) ≡ true)

abbrev pub decreases-loop-at : goal.decreases-loop-at
decreases-loop-at l = length l.self.tokens.now.tokens - l.at
