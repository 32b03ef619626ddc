use Rattle.std.proofs.Common.{subst, sym}
use Rattle.wb_control.specs.Advances.{in_state, Straightens}
use Rattle.wb_control.proofs.Advanced.{stops}
use Rattle.wb_control.proofs.carrying.follow.Goals as goal

pub returns-in_default : goal.returns-in_default
returns-in_default c = λ room i first h f e.
    let r = in_state c.args.run.now first in
    subst (λ v. Straightens v room i c.args.next r c.args.run.now) (sym c.flow_of.ensures)
    (stops room c.args.outcome i c.args.next r c.args.run.now.state c.in_default.not-Goes c.effects_are_steps.ensures.follow h f e)
