use Rattle.std.proofs.Common.{arith}
use Rattle.cf_syntax.proofs.Judged.{length_of}
use Rattle.cf_syntax.proofs.source.Source.count.Goals as goal

pub returns : goal.returns
returns c = omega (arith, c.len.ensures, length_of c.args.self.now.tokens.now)
