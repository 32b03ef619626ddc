use Rattle.cf_eval.proofs.stepping.step.Goals as goal

pub returns-in-App : goal.returns-in-App
returns-in-App c = rw c.in-App.is c.application.ensures
