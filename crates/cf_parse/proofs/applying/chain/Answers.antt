use Rattle.std.proofs.Common.{ap, refl}
use Rattle.cf_parse.proofs.Taken.{retold, two, made}
use Rattle.cf_parse.specs.Evaluation.{reduced}
use Rattle.cf_grammar.specs.declared.productions.Production.TheVariants as by
use Rattle.cf_parse.specs.Kinds as kind
use Rattle.cf_parse.specs.Meaning as meant
use Rattle.cf_parse.proofs.applying.chain.Goals as goal

pub returns : goal.returns
returns c =
    let s = c.args.source.now in
    let o = two c.requires (c.in_ok-first.ensures s) (retold (c.pop.ensures s (kind.Many kind.Term)) (c.in_ok-operands.ensures s)) in
    made (reduced by.Chain c.args.place) (c.in_ok-push.ensures s) (ap (λ t. meant.term t) c.in_ok-t.ensures) o.0 refl
