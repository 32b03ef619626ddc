use Rattle.std.proofs.Common.{◌∙◌, ap, position}
use Rattle.std.specs.Str.{bytes_eq}
use Rattle.cf_elab.proofs.Tables.{position_names}
use Rattle.cf_elab.proofs.globals.Globals.data_type.Goals as goal

pub returns : goal.returns
returns c = c.get_index_of.ensures.index ∙ position_names c.args.name.now c.self.inside.types.keys ∙ ap (λ g. position (bytes_eq c.args.name.now) g.types) c.self.view_is
