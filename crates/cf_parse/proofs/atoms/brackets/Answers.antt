use Rattle.std.proofs.Common.{ap, sym, refl}
use Rattle.cf_parse.proofs.Taken.{three, made, terms_listed}
use Rattle.cf_parse.specs.Evaluation.{reduced}
use Rattle.cf_grammar.specs.declared.productions.Production.TheVariants as by
use Rattle.cf_parse.specs.Kinds as kind
use Rattle.cf_parse.specs.Meaning as meant
use Rattle.cf_parse.proofs.atoms.brackets.Goals as goal

pub returns : goal.returns
returns c =
    let s = c.args.source.now in
    let o = three c.requires ((c.discard.ensures s).1 kind.Token) (c.in_ok-terms.ensures s) ((c.discard-2.ensures s).1 kind.Token) in
    made (reduced by.Brackets c.args.place) (c.in_ok-push.ensures s) (ap (λ ts. meant.bracketed ts) (sym (terms_listed c.in_ok-terms.terms.items))) o.0 refl
