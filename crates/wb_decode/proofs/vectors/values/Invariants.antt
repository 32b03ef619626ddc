use Rattle.std.proofs.Common.{◌≡◌, ◌≤◌, length}
use Rattle.wb_syntax.specs.Grammar.{times}
use Rattle.wb_decode.proofs.Values.{prepend}
use Rattle.wb_decode.proofs.vectors.values.Given as goal

-- the values so far, before those that are read from what is left
abbrev pub invariant-loop-more : goal.invariant-loop-more
invariant-loop-more g l = record {
  whole : prepend l.items ((times l.more g.T.Spelled.grammar).read l.rest) ≡ (times l.fn.count g.T.Spelled.grammar).read l.fn.bytes;
  shorter : length l.rest ≤ length l.fn.bytes;
}

abbrev pub decreases-loop-more : goal.decreases-loop-more
decreases-loop-more g l = l.more
