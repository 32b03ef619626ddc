use Rattle.std.proofs.Common.{◌++◌, map}
use Rattle.cf_core_text.specs.Pieces.{further, printed}
use Rattle.cf_core_text.proofs.Steps.{grown}
use Rattle.cf_core_text.proofs.Declared.{fields_step, fields_end}
use Rattle.cf_core_text.proofs.lines.push_further.Goals as goal

pub loop-field-preserved : goal.loop-field-preserved
loop-field-preserved c =
    fields_step c.args.s.globals c.args.s.depth c.args.fields.now c.loop-field.field-index c.field-item.result c.loop-field.line.items c.push.new.self.items c.print.new.out.items
    (c.args.line.now.items ++ further (map (printed c.args.s.globals c.args.s.depth) c.args.fields.now))
    c.loop-field.invariant c.in_ok-push.ensures.items c.in_ok-print.ensures c.loop-field-test.true c.field-item.is

pub returns : goal.returns
returns c = grown _ _ _ c.loop-field.invariant (fields_end c.args.s.globals c.args.s.depth c.args.fields.now c.loop-field.field-index c.loop-field-test.false)
