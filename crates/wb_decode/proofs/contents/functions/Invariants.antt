use Rattle.std.proofs.Common.{◌≡◌, drop, reverse}
use Rattle.wb_syntax.specs.Binary.{joined}
use Rattle.wb_decode.proofs.Pairing.{append_to}
use Rattle.wb_decode.proofs.contents.functions.Given as goal

abbrev pub invariant-loop-ty : goal.invariant-loop-ty
invariant-loop-ty l = append_to l.funcs (joined (drop l.ty-index l.types) (reverse l.codes)) ≡ joined l.fn.types (reverse l.fn.codes)
