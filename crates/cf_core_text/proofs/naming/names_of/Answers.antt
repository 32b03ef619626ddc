use Rattle.cf_core_text.proofs.Named.{types_next, globals_next, types_end, globals_end}
use Rattle.cf_core_text.proofs.naming.names_of.Goals as goal

pub loop-decl-preserved : goal.loop-decl-preserved
loop-decl-preserved c = record {
  types = types_next c.args.decls.now c.loop-decl.decl-index c.decl-item.result _ _ _ c.loop-decl.invariant.types c.in_ok-add.ensures.types c.loop-decl-test.true c.decl-item.is;
  globals = globals_next c.args.decls.now c.loop-decl.decl-index c.decl-item.result _ _ _ c.loop-decl.invariant.globals c.in_ok-add.ensures.globals c.loop-decl-test.true c.decl-item.is;
}

pub returns-clause-types : goal.returns-clause-types
returns-clause-types c = types_end c.args.decls.now c.loop-decl.decl-index _ _ c.loop-decl.invariant.types c.loop-decl-test.false

pub returns-clause-globals : goal.returns-clause-globals
returns-clause-globals c = globals_end c.args.decls.now c.loop-decl.decl-index _ _ c.loop-decl.invariant.globals c.loop-decl-test.false
