use Rattle.std.proofs.Common.{arith}
use Rattle.wb_decode.proofs.Locals.{too_many}
use Rattle.wb_decode.proofs.codes.local_run.Goals as goal

pub returns-then-count-before-clause-reading : goal.returns-then-count-before-clause-reading
returns-then-count-before-clause-reading c = too_many c.args.before c.in_ok-count.count c.args.bytes.now c.in_ok-count.rest.now c.in_ok-count.ensures.0 (omega arith)
