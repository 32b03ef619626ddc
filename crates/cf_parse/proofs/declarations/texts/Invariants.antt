use Rattle.std.proofs.Common.{◌≡◌, ◌++◌, length}
use Rattle.cf_tree.specs.View.{names_of}
use Rattle.cf_parse.proofs.Names.{spelled}
use Rattle.cf_parse.specs.Kinds as kind
use Rattle.cf_parse.specs.Kinds.{Fits}
use Rattle.cf_parse.specs.Meaning.{names_in}
use Rattle.cf_parse.proofs.declarations.texts.Given as goal

abbrev pub invariant-loop-at : goal.invariant-loop-at
invariant-loop-at l = Fits (kind.Many kind.Name) (spelled l.source l.fn.numbers.items) → Fits (kind.Many kind.Name) (spelled l.source l.numbers.items) × (names_of l.names.items ++ names_in (spelled l.source l.numbers.items) ≡ names_in (spelled l.source l.fn.numbers.items))

abbrev pub decreases-loop-at : goal.decreases-loop-at
decreases-loop-at l = length l.numbers.items
