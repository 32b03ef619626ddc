use Rattle.cf_driver.proofs.lowering.lowered.Goals as goal

pub returns-in_default : goal.returns-in_default
returns-in_default c = λ s h. c.in_default.ensures h.body h.main
