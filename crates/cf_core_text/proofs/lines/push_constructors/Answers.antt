use Rattle.std.proofs.Common.{◌++◌}
use Rattle.cf_core_text.specs.Lines.{constructors}
use Rattle.cf_core_text.proofs.Steps.{grown}
use Rattle.cf_core_text.proofs.Declared.{ctors_step, ctors_end}
use Rattle.cf_core_text.proofs.lines.push_constructors.Goals as goal

pub loop-number-preserved : goal.loop-number-preserved
loop-number-preserved c =
    ctors_step c.args.s.globals c.args.s.depth c.args.data_type c.args.ctors.now c.loop-number.number c.index-ctors-number.result c.loop-number.line.items c.push_bar.new.line.items
    c.push_constructor.new.line.items
    (c.args.line.now.items ++ constructors c.args.s.globals c.args.s.depth c.args.data_type 0 c.args.ctors.now)
    c.loop-number.invariant c.in_ok-push_bar.ensures c.in_ok-push_constructor.ensures c.loop-number-test.true c.index-ctors-number.is

pub returns : goal.returns
returns c =
    grown c.loop-number.line.items _ _ c.loop-number.invariant
    (ctors_end c.args.s.globals c.args.s.depth c.args.data_type c.args.ctors.now c.loop-number.number c.loop-number-test.false)
