use Rattle.std.proofs.Common.{sym, refl, ◌∷◌, []}
use Rattle.cf_parse.proofs.Taken.{six, made, constructed}
use Rattle.cf_parse.specs.Evaluation.{reduced}
use Rattle.cf_grammar.specs.declared.productions.Production.TheVariants as by
use Rattle.cf_parse.specs.Kinds as kind
use Rattle.cf_parse.proofs.atoms.construction.Goals as goal

pub returns : goal.returns
returns c =
    let s = c.args.source.now in
    let n = c.in_ok-name.ensures in
    let o = six c.requires ((c.discard.ensures s).1 kind.Token) n.1 (c.take_brackets-params.ensures s) ((c.discard-2.ensures s).1 kind.Token) (c.in_ok-fields.ensures s) ((c.discard-3.ensures s).1 kind.Token) in
    made (reduced by.Construction c.args.place) (c.in_ok-put_form.ensures s) (sym (constructed c.args.place c.in_ok-name.name n.0 (c.discard.ensures s).0 (c.discard-2.ensures s).0 ((c.discard-3.ensures s).0 ∷ []) c.take_brackets-params.result c.in_ok-fields.fields)) o refl
