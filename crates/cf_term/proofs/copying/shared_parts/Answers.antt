use Rattle.std.proofs.Common.{arith, ◌∙◌}
use Rattle.cf_term.specs.View.{tm_of}
use Rattle.cf_term.specs.Numbered.{places, terms}
use Rattle.cf_term.proofs.Walked.{not_past, one_more, all_made, same_mapped}
use Rattle.cf_term.proofs.copying.shared_parts.Goals as goal

pub unreachable-requires : goal.unreachable-requires
unreachable-requires c = not_past (places (tm_of c.args.node.now)) (terms (tm_of c.args.node.now)) c.loop-i.i (omega arith) c.in-None.ensures

pub loop-i-preserved : goal.loop-i-preserved
loop-i-preserved c =
    rw c.in_ok-push-in-Some.ensures
    (one_more (λ n t. t) (places (tm_of c.args.node.now)) (terms (tm_of c.args.node.now)) c.loop-i.made.items c.loop-i.i c.in-Some.p c.in_ok-share-in-Some.field-0 c.in-Some.ensures c.in_ok-share-in-Some.ensures
    c.loop-i.invariant)

pub returns-clause-parts : goal.returns-clause-parts
returns-clause-parts c =
    all_made (λ n t. t) (places (tm_of c.args.node.now)) (terms (tm_of c.args.node.now)) c.loop-i.made.items c.loop-i.i (omega arith) c.loop-i.invariant
    ∙ same_mapped (places (tm_of c.args.node.now)) (terms (tm_of c.args.node.now))
