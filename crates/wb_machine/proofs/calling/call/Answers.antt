use Rattle.std.proofs.Common.{sym, subst}
use Rattle.wb_syntax.specs.Runs.{Main, first_config, runs}
use Rattle.wb_plain.specs.Follows.{store_of, pages_of}
use Rattle.wb_control.proofs.Advanced.{same_store}
use Rattle.wb_machine.specs.Ends.{EndsAs}
use Rattle.wb_machine.proofs.Steps.{no_main, no_room, whole_run, as_begun}
use Rattle.wb_machine.proofs.calling.call.Goals as goal

pub returns-in_default-clause-ends : goal.returns-in_default-clause-ends
returns-in_default-clause-ends c =
    let r = c.args.run.now in
    λ nests leads. no_main c.args.m.now (pages_of r.state.memory) (store_of r.state) c.args.args.now r.state.operands.room c.args.limit c.in_default.ensures

pub returns-then-not-begin-clause-ends : goal.returns-then-not-begin-clause-ends
returns-then-not-begin-clause-ends c =
    let r = c.args.run.now in
    let i = c.in-Some.ensures in
    let main : Main = record { func = c.in-Some.main.func.now; type = c.in-Some.main.ty.now } in
    λ nests leads.
    let b = nests c.in-Some.main.index c.in-Some.main.func.now i.func in
    no_room c.args.m.now (pages_of r.state.memory) (store_of r.state) (store_of c.begin.new.run.state) c.args.args.now r.state.operands.room c.args.limit main b.0 i.main b.1 (c.if-not-begin.ensures.begins c.args.m.now b.0 i.func b.1) (sym (same_store r.state c.begin.new.run.state c.begin.ensures.store))

pub returns-clause-ends : goal.returns-clause-ends
returns-clause-ends c =
    let r = c.args.run.now in
    let i = c.in-Some.ensures in
    let main : Main = record { func = c.in-Some.main.func.now; type = c.in-Some.main.ty.now } in
    λ nests leads.
    let b = nests c.in-Some.main.index c.in-Some.main.func.now i.func in
    let d = first_config c.args.m.now 0 main c.args.args.now (store_of r.state) b.0 in
    let stands = c.if-not-begin.ensures.begins c.args.m.now b.0 i.func b.1 in
    let left = store_of c.steps.new.run.state in
    let words = c.begin.new.run.state.operands.room in
    let begun = subst (λ o. EndsAs (store_of r.state) (runs c.args.m.now (pages_of o) words c.args.limit d) c.steps.result left) c.begin.ensures.store.0
    (c.steps.ensures.ends (store_of r.state) d nests leads stands) in
    let ends = as_begun (store_of r.state) c.args.m.now (pages_of r.state.memory) r c.begin.new.run c.args.limit d c.steps.result left c.begin.ensures.room begun in
    whole_run c.args.m.now (pages_of r.state.memory) (store_of r.state) (store_of c.steps.new.run.state) c.args.args.now r.state.operands.room c.args.limit main b.0 c.steps.result i.main b.1 ends
