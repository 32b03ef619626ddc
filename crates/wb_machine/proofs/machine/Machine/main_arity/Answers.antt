use Rattle.std.proofs.Common.{◌<◌, ◌^◌, arith}
use Rattle.wb_machine.proofs.Truths.{few_is}
use Rattle.wb_machine.proofs.machine.Machine.main_arity.Goals as goal

pub overflow_cast-result : goal.overflow_cast-result
overflow_cast-result c =
    let few : c.in-Some.count < 2 ^ 32 = few_is c.self.inside.module c.module.result.now c.in-Some.count c.module.ensures.same c.in-Some.ensures c.self.invariant.2 in
    omega (arith, few)
