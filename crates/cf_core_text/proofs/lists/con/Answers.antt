use Rattle.std.proofs.Common.{refl, arith, append_assoc}
use Rattle.cf_term.specs.Core.{nil}
use Rattle.cf_term.specs.View.{listed}
use Rattle.cf_core_text.proofs.Steps.{then_added, laid}
use Rattle.cf_core_text.proofs.Separated.{front_parts, back_parts, depth_parts}
use Rattle.cf_core_text.proofs.lists.con.Goals as goal

pub returns : goal.returns
returns c =
    laid _ _ _ _ _ _
    (then_added (then_added (then_added (then_added c.in_ok-push_all.ensures c.in_ok-push_listed.ensures) c.in_ok-push_all-2.ensures) c.in_ok-push_listed-2.ensures) c.in_ok-push_all-3.ensures)
    c.new-items.ensures.items refl
    (rw (front_parts c.args.s.globals c.args.s.depth c.args.params.now (listed c.args.fields.now nil), back_parts c.args.s.globals c.args.s.depth c.args.params.now (listed c.args.fields.now nil))
    (simp append_assoc))
    (omega (arith, depth_parts c.args.params.now (listed c.args.fields.now nil)))
