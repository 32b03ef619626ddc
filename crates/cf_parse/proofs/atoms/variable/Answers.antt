use Rattle.std.proofs.Common.{refl}
use Rattle.cf_parse.proofs.Taken.{two, made}
use Rattle.cf_parse.specs.Evaluation.{reduced}
use Rattle.cf_grammar.specs.declared.productions.Production.TheVariants as by
use Rattle.cf_parse.proofs.atoms.variable.Goals as goal

pub returns : goal.returns
returns c =
    let s = c.args.source.now in
    let n = c.in_ok-name.ensures in
    let o = two c.requires n.1 (c.take_brackets-params.ensures s) in
    made (reduced by.Variable c.args.place) (c.in_ok-put_form.ensures s) (c.named_form.ensures c.args.place n.0) o.0 refl
