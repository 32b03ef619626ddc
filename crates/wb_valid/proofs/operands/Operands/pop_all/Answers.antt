use Rattle.std.proofs.Common.{rules, sym, ◌∙◌, reverse, take}
use Rattle.wb_valid.proofs.Pops.{pops_endless}
use Rattle.wb_valid.proofs.operands.Operands.pop_all.Goals as goal

pub returns-then-is_empty : goal.returns-then-is_empty
returns-then-is_empty c =
    sym c.loop-left.invariant.rest ∙ pops_endless (reverse (take c.loop-left.left c.args.types.now)) c.loop-left.self (search rules) (search rules)
