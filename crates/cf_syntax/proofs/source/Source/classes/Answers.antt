use Rattle.std.proofs.Common.{[], ◌∷◌, ◌++◌, ◌∙◌, ◌<◌, ◌≤◌, ap, arith, length, sym}
use Rattle.cf_syntax.proofs.Judged.{classes_more, take_whole}
use Rattle.cf_syntax.specs.Tokens.{classes, tokens_of}
use Rattle.cf_syntax.proofs.source.Source.classes.Goals as goal

pub loop-at-preserved : goal.loop-at-preserved
loop-at-preserved c =
    let l = c.args.self.now.tokens.now in
    let h : c.loop-at.at < length (tokens_of l) = omega (arith, c.count-at-end.ensures, c.loop-at-test.true) in
    c.in_ok-push.ensures.items ∙ (λ i. c.loop-at.invariant i ++ sym c.class.ensures.front i ∷ []) ∙ sym (classes_more (tokens_of l) c.loop-at.at h)

pub returns : goal.returns
returns c =
    let l = c.args.self.now.tokens.now in
    let h : length (tokens_of l) ≤ c.loop-at.at = omega (arith, c.count-at-end.ensures, c.loop-at-test.false) in
    c.loop-at.invariant ∙ ap classes (take_whole (tokens_of l) c.loop-at.at h)
