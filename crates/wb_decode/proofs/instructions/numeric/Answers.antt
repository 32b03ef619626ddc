use Rattle.std.proofs.Common.{◌∙◌, sym, arith}
use Rattle.wb_syntax.specs.declared.syntax.Instr.TheVariants.{Unary, Binary}
use Rattle.wb_syntax.specs.Grammar.{Outside, Floating}
use Rattle.wb_decode.specs.Rows.{after}
use Rattle.wb_decode.proofs.Rows.{unaries, binaries, float_operation, exact_as, refused_as}
use Rattle.wb_decode.proofs.instructions.numeric.Goals as goal

pub returns-then-is_unary : goal.returns-then-is_unary
returns-then-is_unary c = exact_as (Unary c.args.opcode) (after c.args.opcode) c.args.bytes.now (unaries c.args.opcode (omega arith) (sym c.is_unary.ensures ∙ c.if-is_unary.true))

pub returns-then-is_binary : goal.returns-then-is_binary
returns-then-is_binary c = exact_as (Binary c.args.opcode) (after c.args.opcode) c.args.bytes.now (binaries c.args.opcode (omega arith) (sym c.is_binary.ensures ∙ c.if-is_binary.true))

pub returns : goal.returns
returns c = refused_as (Outside Floating) (after c.args.opcode) c.args.bytes.now (float_operation c.args.opcode (omega arith) (omega arith) (sym c.is_unary.ensures ∙ c.if-is_unary.false) (sym c.is_binary.ensures ∙ c.if-is_binary.false))
