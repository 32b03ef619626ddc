use Rattle.std.proofs.Common.{arith}
use Rattle.cf_lex.proofs.list.Tokens.text_len.Goals as goal

pub overflow_cast-result : goal.overflow_cast-result
overflow_cast-result c = omega (arith, c.self.invariant.0, c.len.ensures)
