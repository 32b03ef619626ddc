use Rattle.std.proofs.Common.{◌≡◌, map, reverse, length}
use Rattle.cf_parse.specs.Meaning.{arguments}
use Rattle.cf_parse.specs.Values.{argument_of, listed}
use Rattle.cf_parse.proofs.applying.with_arguments.Given as goal

abbrev pub invariant-loop-u : goal.invariant-loop-u
invariant-loop-u l = arguments l.fn.at l.t.value (listed (map argument_of (reverse l.arguments.items))) ≡ arguments l.fn.at l.fn.t.value (listed (map argument_of (reverse l.fn.arguments.items)))

abbrev pub decreases-loop-u : goal.decreases-loop-u
decreases-loop-u l = length l.arguments.items
