use Rattle.std.proofs.Common.{◌∙◌, ◌++◌, ap, sym}
use Rattle.std.proofs.Math.Utf8.{encode}
use Rattle.std.proofs.lemmas.List.{take_all}
use Rattle.std.specs.Str.{encode_utf8_all}
use Rattle.cf_lex.proofs.Widths.{encodes-more}
use Rattle.cf_lex.proofs.naming.text.Goals as goal

pub returns-clause-text : goal.returns-clause-text
returns-clause-text c = c.loop-c.invariant ∙ ap encode_utf8_all (take_all c.loop-c.c-index c.args.chars.now c.loop-c-test.false)

pub loop-c-preserved : goal.loop-c-preserved
loop-c-preserved c =
    c.in_ok-push.ensures.bytes ∙ ap (λ bs. bs ++ encode c.c-item.result) c.loop-c.invariant ∙ sym (encodes-more c.args.chars.now c.loop-c.c-index c.c-item.result c.loop-c-test.true c.c-item.is)
