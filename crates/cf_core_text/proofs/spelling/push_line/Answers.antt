use Rattle.std.proofs.Common.{refl}
use Rattle.cf_core_text.specs.Tables.{names_in}
use Rattle.cf_core_text.proofs.Spelled.{spelled_next}
use Rattle.cf_core_text.proofs.spelling.push_line.Goals as goal

pub loop-token-preserved : goal.loop-token-preserved
loop-token-preserved c =
    spelled_next (names_in c.args.names.now) c.args.line.now c.loop-token.token-index c.loop-token.previous _ _ _ _ _ _ c.loop-token.invariant c.in_ok-push_gap.ensures
    c.in_ok-spell.ensures c.loop-token-test.true refl
