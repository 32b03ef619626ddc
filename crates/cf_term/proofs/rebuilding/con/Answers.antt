use Rattle.cf_term.proofs.Rebuilt.{con_parts}
use Rattle.cf_term.proofs.rebuilding.con.Goals as goal

pub returns-in-Ok : goal.returns-in-Ok
returns-in-Ok c =
    con_parts c.args.data_type c.args.ctor c.args.count c.args.parts.items c.split_off.new.self.items c.in-Ok.fields.items c.requires c.in-Ok.ensures.items c.in-Ok.ensures.tail
