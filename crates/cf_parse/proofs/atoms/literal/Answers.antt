use Rattle.std.proofs.Common.{[], ◌∙◌, ap, refl, rules, sym, w64}
use Rattle.std.proofs.lemmas.Int.{to_z-of_z}
use Rattle.cf_grammar.specs.declared.productions.Production.TheVariants as by
use Rattle.cf_tree.specs.declared.heads.Head.TheVariants as head
use Rattle.cf_parse.proofs.Taken.{one, made, whole_at}
use Rattle.cf_parse.specs.Evaluation.{reduced}
use Rattle.cf_parse.specs.Kinds as kind
use Rattle.cf_parse.specs.Meaning as meant
use Rattle.cf_syntax.specs.Source.{from}
use Rattle.cf_parse.proofs.atoms.literal.Goals as goal

pub returns : goal.returns
returns c =
    let s = c.args.source.now in
    let p = c.args.place in
    let o = one c.requires (c.take_token-at.ensures s kind.Whole tt) in
    let same = to_z-of_z w64 c.whole.result (search rules) in
    made (reduced by.Literal p) (c.in_ok-put_form.ensures s) (ap (λ z. meant.term (meant.form p (head.Lit z) [])) same ∙ sym (whole_at s.prelude (from s c.take_token-at.result) p c.whole.ensures o.1)) o.0 refl
