use Rattle.std.proofs.Common.{ap, refl}
use Rattle.cf_parse.proofs.Taken.{retold, two, made}
use Rattle.cf_parse.specs.Evaluation.{reduced}
use Rattle.cf_grammar.specs.declared.productions.Production.TheVariants as by
use Rattle.cf_parse.specs.Kinds as kind
use Rattle.cf_parse.specs.Meaning as meant
use Rattle.cf_parse.proofs.applying.application.Goals as goal

pub returns : goal.returns
returns c =
    let s = c.args.source.now in
    let o = two c.requires (c.in_ok-function.ensures s) (retold (c.pop.ensures s (kind.Many kind.Argument)) (c.in_ok-arguments.ensures s)) in
    made (reduced by.Application c.args.place) (c.in_ok-push.ensures s) (ap (λ t. meant.term t) c.in_ok-t.ensures) o.0 refl
