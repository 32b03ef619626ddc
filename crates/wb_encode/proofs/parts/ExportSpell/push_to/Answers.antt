use Rattle.wb_encode.proofs.Appending.{both, named}
use Rattle.wb_encode.proofs.Items.{export_is}
use Rattle.wb_encode.proofs.ItemsParted.{export_parts}
use Rattle.wb_encode.proofs.parts.ExportSpell.push_to.Goals as goal

pub returns : goal.returns
returns c = named (both c.in_ok-push_name.ensures c.in_ok-push_exported.ensures) (export_is c.args.self.now) (export_parts c.args.self.now)
