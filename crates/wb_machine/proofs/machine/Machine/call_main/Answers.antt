use Rattle.std.proofs.Common.{subst}
use Rattle.wb_syntax.specs.Runs.{fixed_room, run_main}
use Rattle.wb_plain.specs.Follows.{store_of}
use Rattle.wb_machine.specs.Model.{Machine-model}
use Rattle.wb_machine.specs.Ends.{EndsAs}
use Rattle.wb_machine.proofs.Truths.{ends_at}
use Rattle.wb_machine.proofs.machine.Machine.call_main.Goals as goal

pub returns-clause-ends : goal.returns-clause-ends
returns-clause-ends c =
    let a = c.self.inside in
    let left = store_of c.call.new.run.state in
    subst (λ (v : Machine-model). EndsAs v.store (run_main v.module_ (fixed_room v.module_) v.store c.args.args.now v.words c.args.limit) c.call.result left) c.self.view_is
    (ends_at a.module c.nested_module.result.now a.jumps c.as_slice.result.now a.run a.words c.args.args.now c.args.limit c.call.result left c.nested_module.ensures.same c.as_slice.ensures c.self.invariant.1 c.nested_module.ensures.nested c.self.invariant.0 c.call.ensures.ends)
