use Rattle.wb_control.proofs.First.{begins, fits_from}
use Rattle.wb_control.proofs.beginning.begin.Goals as goal

pub returns-clause-begins : goal.returns-clause-begins
returns-clause-begins c =
    λ m body named nests. begins m c.args.run.now c.forget.new.run c.open_first.new.run c.args.index c.args.func.now c.args.ty.now c.args.args.now body c.open_first.result c.forget.ensures named nests c.open_first.ensures.opens

pub returns-clause-fits : goal.returns-clause-fits
returns-clause-fits c = fits_from c.forget.new.run c.open_first.new.run c.args.index c.args.func.now c.args.ty.now c.args.args.now c.open_first.result c.open_first.ensures.opens
