use Rattle.std.proofs.Common.{refl, ◌∷◌, []}
use Rattle.cf_parse.proofs.Taken.{four, made}
use Rattle.cf_parse.specs.Evaluation.{reduced}
use Rattle.cf_grammar.specs.declared.productions.Production.TheVariants as by
use Rattle.cf_parse.specs.Kinds as kind
use Rattle.cf_parse.proofs.atoms.enclosed.Goals as goal

pub returns : goal.returns
returns c =
    let s = c.args.source.now in
    let o = four c.requires ((c.discard.ensures s).1 kind.Token) (c.in_ok-first.ensures s) (c.take_optional_term-second.ensures s) ((c.discard-2.ensures s).1 kind.Token) in
    made (reduced by.Enclosed c.args.place) (c.in_ok-push.ensures s) (c.in_ok-t.ensures (c.discard.ensures s).0 ((c.discard-2.ensures s).0 ∷ [])) o.0 refl
