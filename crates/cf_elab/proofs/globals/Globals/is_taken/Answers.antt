use Rattle.std.proofs.Common.{◌∙◌, ap}
use Rattle.cf_elab.specs.Scope.{is_taken}
use Rattle.cf_elab.proofs.Tables.{taken}
use Rattle.cf_elab.proofs.globals.Globals.is_taken.Goals as goal

pub returns : goal.returns
returns c =
    let g = c.self.inside in
    taken c.args.name.now g.variables.keys g.types.keys g.ctors.entries g.usable c.contains-variable.result c.contains-data_type.result c.contains_key-ctor.result c.contains-variable.ensures c.contains-data_type.ensures c.contains_key-ctor.ensures
    ∙ ap (λ v. is_taken v c.args.name.now) c.self.view_is
