use Rattle.std.proofs.Common.{arith, sym, ◌∙◌}
use Rattle.cf_term.proofs.UnderBinders.{ups-there, ups-below, ups-above}
use Rattle.cf_term.proofs.substituting.put.Goals as goal

pub returns-then-n-place : goal.returns-then-n-place
returns-then-n-place c = rw (ups-there c.args.depth c.args.at c.args.by.now c.args.i (omega arith)) c.raise.ensures

pub returns-then-n-place-2 : goal.returns-then-n-place-2
returns-then-n-place-2 c = c.lone.ensures ∙ sym (ups-below c.args.depth c.args.at c.args.by.now c.args.i (omega arith))

pub returns : goal.returns
returns c = c.lone-2.ensures ∙ sym (ups-above c.args.depth c.args.at c.args.by.now c.args.i (omega arith))
