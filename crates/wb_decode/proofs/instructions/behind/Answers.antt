use Rattle.std.proofs.Common.{arith}
use Rattle.std.proofs.lemmas.Bool.Decides.{nat_tests}
use Rattle.wb_syntax.specs.Grammar.{Malformed}
use Rattle.wb_decode.specs.Rows.{after}
use Rattle.wb_decode.proofs.Rows.{unknown, refused_as}
use Rattle.wb_decode.proofs.instructions.behind.Goals as goal
use Rattle.wb_decode.proofs.instructions.behind.Goals.{in_default-via-then-opcode-lt11, in_default-via-else-opcode-lt11+else-opcode-lt18+then-opcode-lt32, in_default-via-else-opcode-lt11+else-opcode-lt18+else-opcode-lt32+else-opcode-lt37+then-opcode-lt40, in_default-via-else-opcode-lt11+else-opcode-lt18+else-opcode-lt32+else-opcode-lt37+else-opcode-lt40+else-opcode-lt63+else-opcode-lt192}

pub returns-in_default : goal.returns-in_default
returns-in_default c =
    refused_as Malformed (after c.args.opcode) c.args.bytes.now (unknown c.args.opcode (omega arith) (elim c.in_default.branch [
      | in_default-via-then-opcode-lt11 w ↦ grind (arith, nat_tests)
      | in_default-via-else-opcode-lt11+else-opcode-lt18+then-opcode-lt32 w ↦ grind (arith, nat_tests)
      | in_default-via-else-opcode-lt11+else-opcode-lt18+else-opcode-lt32+else-opcode-lt37+then-opcode-lt40 w ↦ grind (arith, nat_tests)
      | in_default-via-else-opcode-lt11+else-opcode-lt18+else-opcode-lt32+else-opcode-lt37+else-opcode-lt40+else-opcode-lt63+else-opcode-lt192 w ↦ grind (arith, nat_tests)
    ]))
