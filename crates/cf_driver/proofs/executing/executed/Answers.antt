use Rattle.cf_driver.proofs.RunEnds.{not_run, runs_to}
use Rattle.cf_driver.proofs.executing.executed.Goals as goal

pub returns-clause-line : goal.returns-clause-line
returns-clause-line c =
    runs_to c.args.bytes.now c.args.args.now c.args.words c.args.limit c.in_ok-module.module c.in_ok-machine.machine c.call_main-end.result c.call_main-end.new.self.store c.status.result c.answer.result
    c.in_ok-module.ensures.module
    c.in_ok-machine.ensures.machine
    c.call_main-end.ensures.ends
    c.status.ensures
    c.answer.ensures

pub returns-clause-refused : goal.returns-clause-refused
returns-clause-refused c =
    not_run c.args.bytes.now c.args.args.now c.args.words c.args.limit c.in_ok-module.module c.in_ok-machine.machine c.call_main-end.result c.call_main-end.new.self.store c.status.result c.answer.result
    c.in_ok-module.ensures.module
    c.in_ok-machine.ensures.machine
    c.call_main-end.ensures.ends
    c.status.ensures
    c.answer.ensures
