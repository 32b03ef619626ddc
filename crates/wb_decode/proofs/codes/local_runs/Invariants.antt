use Rattle.std.proofs.Common.{◌≡◌, ◌≤◌, length}
use Rattle.wb_syntax.specs.Binary.{local_runs}
use Rattle.wb_decode.proofs.Values.{prepend}
use Rattle.wb_decode.proofs.codes.local_runs.Given as goal

-- the runs so far, before those that are read from what is left
abbrev pub invariant-loop-more : goal.invariant-loop-more
invariant-loop-more l = record {
  whole : prepend l.runs ((local_runs l.more l.before).read l.rest) ≡ (local_runs l.fn.count 0).read l.fn.bytes;
  shorter : length l.rest ≤ length l.fn.bytes;
}

abbrev pub decreases-loop-more : goal.decreases-loop-more
decreases-loop-more l = l.more
