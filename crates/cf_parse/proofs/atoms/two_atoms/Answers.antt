use Rattle.std.proofs.Common.{ap, sym, refl, ◌∙◌}
use Rattle.cf_parse.proofs.Taken.{three, made, word_takes}
use Rattle.cf_parse.proofs.Making.{makes}
use Rattle.cf_parse.specs.Evaluation.{reduced}
use Rattle.cf_grammar.specs.declared.productions.Production.TheVariants as by
use Rattle.cf_parse.specs.Meaning as meant
use Rattle.cf_parse.proofs.atoms.two_atoms.Goals as goal

pub returns : goal.returns
returns c =
    let s = c.args.source.now in
    let w = c.take_word-word.ensures in
    let y = c.take_word-word.result in
    let o = three c.requires (w.1.1 2) (c.in_ok-t.ensures s) (c.in_ok-u.ensures s) in
    let p = c.args.place in
    made (reduced by.TwoAtoms c.args.place) (c.in_ok-put_form.ensures s) (ap (λ t. meant.term t) (c.with_two.ensures p) ∙ sym (makes y 2 (word_takes o.1.0) p c.in_ok-t.t.value c.in_ok-u.u.value)) o.0 refl
