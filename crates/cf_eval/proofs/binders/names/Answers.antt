use Rattle.std.proofs.Common.{◌∙◌}
use Rattle.cf_eval.proofs.Placed.{names_some, names_none}
use Rattle.cf_eval.proofs.binders.names.Goals as goal

pub returns-in-Some : goal.returns-in-Some
returns-in-Some c =
    let at = rw c.deref.ensures.value at c.in-Some.ensures.lookup in
    c.from.ensures ∙ names_some c.args.arms.now.items c.args.i c.in-Some.arm.now at.3.0 at.1

pub returns-in-None : goal.returns-in-None
returns-in-None c =
    let at = rw c.deref.ensures.value at c.in-None.ensures.lookup in
    names_none c.args.arms.now.items c.args.i at.3
