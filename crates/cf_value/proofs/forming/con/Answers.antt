use Rattle.cf_value.proofs.Built.{con_split}
use Rattle.cf_value.proofs.forming.con.Goals as goal

pub returns-in-Ok : goal.returns-in-Ok
returns-in-Ok c =
    con_split c.args.data_type c.args.ctor c.args.count c.args.parts.items c.split_off.new.self.items c.in-Ok.fields.items c.requires c.in-Ok.ensures.items c.in-Ok.ensures.tail
