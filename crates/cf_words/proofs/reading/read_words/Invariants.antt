use Rattle.std.proofs.Common.{map, take}
use Rattle.std.specs.String.{string_bytes}
use Rattle.cf_words.proofs.Stops.{HasRead}
use Rattle.cf_words.proofs.reading.read_words.Given as goal

abbrev pub invariant-loop-i : goal.invariant-loop-i
invariant-loop-i l = HasRead (map (λ w. string_bytes w) (take l.i l.words)) l.reading l.args
