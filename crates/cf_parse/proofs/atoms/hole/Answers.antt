use Rattle.std.proofs.Common.{refl}
use Rattle.cf_parse.proofs.Taken.{one, made}
use Rattle.cf_parse.specs.Evaluation.{reduced}
use Rattle.cf_grammar.specs.declared.productions.Production.TheVariants as by
use Rattle.cf_parse.specs.Kinds as kind
use Rattle.cf_parse.proofs.atoms.hole.Goals as goal

pub returns : goal.returns
returns c =
    let s = c.args.source.now in
    let o = one c.requires ((c.discard.ensures s).1 kind.Token) in
    made (reduced by.Hole c.args.place) (c.in_ok-put_form.ensures s) refl o.0 refl
