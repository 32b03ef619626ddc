use Rattle.std.proofs.Common.{◌∙◌, ap, position, Some, None}
use Rattle.std.specs.Str.{bytes_eq}
use Rattle.cf_elab.proofs.Tables.{position_from_end}
use Rattle.cf_elab.proofs.globals.Globals.variable.Goals as goal

pub returns-in-Some : goal.returns-in-Some
returns-in-Some c =
    position_from_end c.args.name.now c.self.inside.variables.keys c.len-count.result (Some c.in-Some.i) c.len-count.ensures.unique c.len-count.ensures.len c.in-Some.ensures.index
    ∙ ap (λ g. position (bytes_eq c.args.name.now) g.variables) c.self.view_is

pub returns-in-None : goal.returns-in-None
returns-in-None c =
    position_from_end c.args.name.now c.self.inside.variables.keys c.len-count.result None c.len-count.ensures.unique c.len-count.ensures.len c.in-None.ensures.index
    ∙ ap (λ g. position (bytes_eq c.args.name.now) g.variables) c.self.view_is
