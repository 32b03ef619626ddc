use Rattle.std.proofs.Common.{◌≡◌, map, reverse, length}
use Rattle.cf_parse.specs.Meaning.{operands}
use Rattle.cf_parse.specs.Values.{term_of, listed}
use Rattle.cf_parse.proofs.applying.with_operands.Given as goal

abbrev pub invariant-loop-u : goal.invariant-loop-u
invariant-loop-u l = operands l.fn.at l.t.value (listed (map term_of (reverse l.operands.items))) ≡ operands l.fn.at l.fn.t.value (listed (map term_of (reverse l.fn.operands.items)))

abbrev pub decreases-loop-u : goal.decreases-loop-u
decreases-loop-u l = length l.operands.items
