use Rattle.std.proofs.Common.{◌≡◌, length, drop}
use Rattle.std.specs.Str.{bytes_eq}
use Rattle.cf_lex.proofs.keywords.spells.Given as goal

abbrev pub invariant-loop-i : goal.invariant-loop-i
invariant-loop-i l = (length l.word ≡ length l.bytes) × (bytes_eq (drop l.i l.word) (drop l.i l.bytes) ≡ bytes_eq l.word l.bytes)
