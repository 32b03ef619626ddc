use Rattle.std.proofs.Common.{◌≡◌, take}
use Rattle.cf_lex.specs.Tokens.{width}
use Rattle.cf_lex.proofs.lexing.bytes_len.Given as goal

abbrev pub invariant-loop-c : goal.invariant-loop-c
invariant-loop-c l = l.n ≡ width (take l.c-index l.chars)
