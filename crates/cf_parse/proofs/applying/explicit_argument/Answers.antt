use Rattle.std.proofs.Common.{refl}
use Rattle.cf_parse.proofs.Taken.{one, made}
use Rattle.cf_parse.specs.Evaluation.{reduced}
use Rattle.cf_grammar.specs.declared.productions.Production.TheVariants as by
use Rattle.cf_parse.proofs.applying.explicit_argument.Goals as goal

pub returns : goal.returns
returns c =
    let s = c.args.source.now in
    let o = one c.requires (c.in_ok-term.ensures s) in
    made (reduced by.ExplicitArgument c.args.place) (c.in_ok-push.ensures s) refl o.0 refl
