use Rattle.std.proofs.Common.{ap, sym, refl, ◌∙◌}
use Rattle.cf_parse.proofs.Taken.{one, made, word_takes}
use Rattle.cf_parse.proofs.Making.{makes}
use Rattle.cf_parse.specs.Evaluation.{reduced}
use Rattle.cf_grammar.specs.declared.productions.Production.TheVariants as by
use Rattle.cf_parse.specs.Meaning as meant
use Rattle.cf_parse.proofs.atoms.constant.Goals as goal

pub returns : goal.returns
returns c =
    let s = c.args.source.now in
    let w = c.take_word-word.ensures in
    let y = c.take_word-word.result in
    let o = one c.requires (w.1.1 0) in
    let p = c.args.place in
    made (reduced by.Constant c.args.place) (c.in_ok-put_form.ensures s) (ap (λ t. meant.term t) (c.with_none.ensures p) ∙ sym (makes y 0 (word_takes o.1) p)) o.0 refl
