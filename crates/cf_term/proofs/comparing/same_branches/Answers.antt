use Rattle.std.proofs.Common.{arith}
use Rattle.cf_term.proofs.Compared.{heads_unequal, never}
use Rattle.cf_term.proofs.comparing.same_branches.Goals as goal

pub returns-then-a-b : goal.returns-then-a-b
returns-then-a-b c = never (λ e. omega (arith, heads_unequal c.args.a.now c.args.b.now e))
