use Rattle.std.proofs.Common.{◌++◌, string_bytes}
use Rattle.cf_rules.specs.View.{declarations}
use Rattle.cf_core_text.specs.Lines.{lines, line_text}
use Rattle.cf_core_text.specs.Tables.{names_in}
use Rattle.cf_core_text.proofs.Written.{written_next, written_end}
use Rattle.cf_core_text.proofs.writing.push_lines.Goals as goal

pub loop-decl-preserved : goal.loop-decl-preserved
loop-decl-preserved c =
    written_next (names_in c.args.names.now) c.loop-decl.above c.in_ok-above.above c.args.decls.now c.loop-decl.decl-index c.decl-item.result c.new-line.result.items
    c.push_declaration.new.line.items c.deref.result.now (string_bytes c.loop-decl.out) (string_bytes c.push_line.new.out)
    (string_bytes c.args.out.now ++ line_text (names_in c.args.names.now) (lines 1 0 (declarations c.args.decls.now)))
    c.loop-decl.invariant c.new-line.ensures.items c.in_ok-push_declaration.ensures c.deref.ensures.value c.in_ok-push_line.ensures c.loop-decl-test.true c.decl-item.is c.in_ok-above.ensures

pub returns : goal.returns
returns c = written_end (names_in c.args.names.now) c.loop-decl.above c.args.decls.now c.loop-decl.decl-index _ _ c.loop-decl.invariant c.loop-decl-test.false
