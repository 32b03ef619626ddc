use Rattle.std.proofs.Common.{length}
use Rattle.cf_parse.specs.Building.{Stage}
use Rattle.cf_syntax.specs.Tokens.{tokens_of}
use Rattle.cf_parse.specs.Values.{sems}
use Rattle.cf_parse.proofs.building.built.Given as goal

abbrev pub invariant-loop-step : goal.invariant-loop-step
invariant-loop-step l = Stage l.source.prelude l.fn.steps.items (tokens_of l.source.tokens.now) l.left.items l.at (sems l.source l.values)

abbrev pub decreases-loop-step : goal.decreases-loop-step
decreases-loop-step l = length l.left.items
