use Rattle.std.proofs.Common.{◌≤◌, length}
use Rattle.wb_syntax.specs.Binary.{expression}
use Rattle.wb_decode.specs.Nest.{opens}
use Rattle.wb_decode.proofs.Bodies.{Body}
use Rattle.wb_decode.proofs.expressions.expression.Given as goal

abbrev pub invariant-loop-nest : goal.invariant-loop-nest
invariant-loop-nest l = record {
  body : Body (expression.read l.fn.bytes) l.instrs (opens l.nest.items) l.rest;
  shorter : length l.rest ≤ length l.fn.bytes;
}

abbrev pub decreases-loop-nest : goal.decreases-loop-nest
decreases-loop-nest l = length l.rest
