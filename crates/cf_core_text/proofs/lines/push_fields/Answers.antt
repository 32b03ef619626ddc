use Rattle.cf_core_text.proofs.Steps.{tail_of}
use Rattle.cf_core_text.proofs.Declared.{fields_all}
use Rattle.cf_core_text.proofs.lines.push_fields.Goals as goal

pub returns-in_ok-push_further-in-len1-up : goal.returns-in_ok-push_further-in-len1-up
returns-in_ok-push_further-in-len1-up c =
    fields_all c.args.s.globals c.args.s.depth c.args.fields.now _ c.field-item.result c.args.line.now.items c.print.new.out.items c.push_further.new.line.items
    c.in_ok-print-in-len1-up.ensures c.in_ok-push_further-in-len1-up.ensures c.in-len1-up.len_at_least c.field-item.is (tail_of c.args.fields.now)
