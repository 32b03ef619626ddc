use Rattle.std.proofs.Common.{sym, arith}
use Rattle.wb_syntax.specs.Grammar.{index, followed}
use Rattle.wb_syntax.specs.Binary.{results}
use Rattle.wb_encode.proofs.Appending.{both, named, for_same}
use Rattle.wb_encode.proofs.Items.{no_result, one_result}
use Rattle.wb_encode.proofs.ItemsParted.{no_result_parts, one_result_parts}
use Rattle.wb_encode.proofs.parts.push_result.Goals as goal

pub returns-in_ok-push_unsigned-in-None : goal.returns-in_ok-push_unsigned-in-None
returns-in_ok-push_unsigned-in-None c =
    for_same (followed index results).Is (sym c.in-None.is) (named (c.in_ok-push_unsigned-in-None.ensures 32 (omega arith)) no_result no_result_parts)

pub returns-in_ok-push_to-in-Some : goal.returns-in_ok-push_to-in-Some
returns-in_ok-push_to-in-Some c =
    for_same (followed index results).Is (sym c.in-Some.is)
    (named (both (c.in_ok-push_unsigned-in-Some.ensures 32 (omega arith)) c.in_ok-push_to-in-Some.ensures) (one_result c.in-Some.t) (one_result_parts c.in-Some.t))
