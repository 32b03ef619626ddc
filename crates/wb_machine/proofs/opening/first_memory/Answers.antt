use Rattle.std.proofs.Common.{arith, sym}
use Rattle.wb_machine.proofs.First.{first_least}
use Rattle.wb_machine.proofs.opening.first_memory.Goals as goal

pub new-requires : goal.new-requires
new-requires c =
    let l = first_least c.args.m.now.memories c.in-Some.limits.now (sym c.in-Some.ensures.value) in
    omega (arith, l, c.requires)
