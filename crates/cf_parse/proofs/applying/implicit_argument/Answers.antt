use Rattle.std.proofs.Common.{refl}
use Rattle.cf_parse.proofs.Taken.{three, made}
use Rattle.cf_parse.specs.Evaluation.{reduced}
use Rattle.cf_grammar.specs.declared.productions.Production.TheVariants as by
use Rattle.cf_parse.specs.Kinds as kind
use Rattle.cf_parse.proofs.applying.implicit_argument.Goals as goal

pub returns : goal.returns
returns c =
    let s = c.args.source.now in
    let o = three c.requires ((c.discard.ensures s).1 kind.Token) (c.in_ok-term.ensures s) ((c.discard-2.ensures s).1 kind.Token) in
    made (reduced by.ImplicitArgument c.args.place) (c.in_ok-push.ensures s) refl o.0 refl
