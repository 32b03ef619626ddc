use Rattle.std.proofs.Common.{arith, rules}
use Rattle.std.proofs.lemmas.Bool.Decides.{nat_tests}
use Rattle.std.specs.Prelude.{◌≤◌}
use Rattle.wb_num.proofs.Rows.{narrow, two_operands, small_fits, wide_fits}
use Rattle.wb_num.proofs.operations.binary.Goals as goal
use Rattle.wb_num.proofs.operations.binary.Goals.{in_default-via-then-op-lt70, in_default-via-else-op-lt70+else-op-lt80+then-op-lt81, in_default-via-else-op-lt70+else-op-lt80+else-op-lt81+else-op-lt91+then-op-lt106, in_default-via-else-op-lt70+else-op-lt80+else-op-lt81+else-op-lt91+else-op-lt106+else-op-lt121}

pub overflow_cast-a-in-106-to-120 : goal.overflow_cast-a-in-106-to-120
overflow_cast-a-in-106-to-120 c = let h = narrow c.args.op c.args.a (omega arith) (omega arith) c.requires.first in search rules

pub overflow_cast-b-in-106-to-120 : goal.overflow_cast-b-in-106-to-120
overflow_cast-b-in-106-to-120 c = let h = narrow c.args.op c.args.b (omega arith) (omega arith) c.requires.second in search rules

pub compute_i64-requires-clause-from_add : goal.compute_i64-requires-clause-from_add
compute_i64-requires-clause-from_add c =
    let h = two_operands c.args.op (omega arith) c.requires.operation in
    elim c.in_default.branch [
      | in_default-via-then-op-lt70 w ↦ grind (arith, nat_tests)
      | in_default-via-else-op-lt70+else-op-lt80+then-op-lt81 w ↦ grind (arith, nat_tests)
      | in_default-via-else-op-lt70+else-op-lt80+else-op-lt81+else-op-lt91+then-op-lt106 w ↦ grind (arith, nat_tests)
      | in_default-via-else-op-lt70+else-op-lt80+else-op-lt81+else-op-lt91+else-op-lt106+else-op-lt121 w ↦ grind (arith, nat_tests)
    ]

pub compute_i64-requires-clause-to_rotr : goal.compute_i64-requires-clause-to_rotr
compute_i64-requires-clause-to_rotr c =
    let h = two_operands c.args.op (omega arith) c.requires.operation in
    elim c.in_default.branch [
      | in_default-via-then-op-lt70 w ↦ grind (arith, nat_tests)
      | in_default-via-else-op-lt70+else-op-lt80+then-op-lt81 w ↦ grind (arith, nat_tests)
      | in_default-via-else-op-lt70+else-op-lt80+else-op-lt81+else-op-lt91+then-op-lt106 w ↦ grind (arith, nat_tests)
      | in_default-via-else-op-lt70+else-op-lt80+else-op-lt81+else-op-lt91+else-op-lt106+else-op-lt121 w ↦ grind (arith, nat_tests)
    ]

pub returns-in_ok-number-in-106-to-120-clause-fits : goal.returns-in_ok-number-in-106-to-120-clause-fits
returns-in_ok-number-in-106-to-120-clause-fits c = small_fits c.args.op c.from.result (omega arith)

pub returns-in-70-to-79-clause-fits : goal.returns-in-70-to-79-clause-fits
returns-in-70-to-79-clause-fits c = small_fits c.args.op c.flag.result (omega arith)

pub returns-in-81-to-90-clause-fits : goal.returns-in-81-to-90-clause-fits
returns-in-81-to-90-clause-fits c = small_fits c.args.op c.flag-in-81-to-90.result (omega arith)

pub returns-in_ok-number-in_default-clause-fits : goal.returns-in_ok-number-in_default-clause-fits
returns-in_ok-number-in_default-clause-fits c =
    let h = two_operands c.args.op (omega arith) c.requires.operation in
    let low : 124 ≤ c.args.op = elim c.in_default.branch [
      | in_default-via-then-op-lt70 w ↦ grind (arith, nat_tests)
      | in_default-via-else-op-lt70+else-op-lt80+then-op-lt81 w ↦ grind (arith, nat_tests)
      | in_default-via-else-op-lt70+else-op-lt80+else-op-lt81+else-op-lt91+then-op-lt106 w ↦ grind (arith, nat_tests)
      | in_default-via-else-op-lt70+else-op-lt80+else-op-lt81+else-op-lt91+else-op-lt106+else-op-lt121 w ↦ grind (arith, nat_tests)
    ] in
    let high : c.args.op ≤ 138 = elim c.in_default.branch [
      | in_default-via-then-op-lt70 w ↦ grind (arith, nat_tests)
      | in_default-via-else-op-lt70+else-op-lt80+then-op-lt81 w ↦ grind (arith, nat_tests)
      | in_default-via-else-op-lt70+else-op-lt80+else-op-lt81+else-op-lt91+then-op-lt106 w ↦ grind (arith, nat_tests)
      | in_default-via-else-op-lt70+else-op-lt80+else-op-lt81+else-op-lt91+else-op-lt106+else-op-lt121 w ↦ grind (arith, nat_tests)
    ] in
    wide_fits c.args.op c.in_ok-number-in_default.number low high (omega arith)
