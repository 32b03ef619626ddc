use Rattle.std.proofs.Common.{subst}
use Rattle.std.specs.Prelude.{Option, IfSome}
use Rattle.wb_syntax.specs.declared.syntax.Func.{Func}
use Rattle.wb_syntax.specs.Typing.{Body, IsTypedBody}
use Rattle.wb_machine.proofs.machine.nested_module.Goals as goal

pub returns-clause-nested : goal.returns-clause-nested
returns-clause-nested c =
    let m = c.args.m.now in
    λ x f named.
    let t : IsTypedBody m f = subst (λ (o : Option Func). IfSome o (IsTypedBody m)) named (c.module.ensures.valid (Body x)) in
    (t.code, (c.typed_is_proper.ensures m f t).1)
