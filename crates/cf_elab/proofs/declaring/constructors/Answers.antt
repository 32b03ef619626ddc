use Rattle.std.proofs.Common.{rules}
use Rattle.cf_tree.specs.View.{names_of}
use Rattle.cf_elab.proofs.Declared.{ctors_stuck}
use Rattle.cf_elab.proofs.declaring.constructors.Goals as goal

pub returns-in_err-ctor-clause-refused : goal.returns-in_err-ctor-clause-refused
returns-in_err-ctor-clause-refused c =
    let w = ctors_stuck c.args.data_type (names_of c.args.params.now.items) c.args.g.now c.args.ctors.now.items c.deref-ctor-items.result.now c.loop-ctor.ctor-index c.ctor-item.result c.args.holes.now c.loop-ctor.holes c.loop-ctor.g c.loop-ctor.read.items c.in_err-ctor.field-0.0 c.deref-ctor-items.ensures.value c.loop-ctor-test.true c.ctor-item.is c.loop-ctor.invariant c.in_err-ctor.ensures.refused in
    search (rules, w)
