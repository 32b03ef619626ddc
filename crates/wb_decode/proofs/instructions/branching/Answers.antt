use Rattle.std.proofs.Common.{ap}
use Rattle.wb_syntax.specs.Table.{row_at, Table}
use Rattle.wb_syntax.specs.Grammar.{Outside}
use Rattle.wb_decode.specs.Rows.{after}
use Rattle.wb_decode.proofs.Rows.{refused_as}
use Rattle.wb_decode.proofs.instructions.branching.Goals as goal

pub returns-in-17 : goal.returns-in-17
unfolding row_at
returns-in-17 c = refused_as (Outside Table) (after c.args.opcode) c.args.bytes.now (ap after c.in-17.is)
