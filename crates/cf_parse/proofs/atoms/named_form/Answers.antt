use Rattle.std.proofs.Common.{[], ◌∷◌, ◌∙◌, ap, sym}
use Rattle.cf_tree.specs.Tree as trees
use Rattle.cf_parse.proofs.Taken.{parts_each}
use Rattle.cf_parse.specs.Meaning as meant
use Rattle.cf_parse.specs.Values.{optional_brackets}
use Rattle.cf_parse.proofs.atoms.named_form.Goals as goal

pub returns-in-Some : goal.returns-in-Some
returns-in-Some c = λ p k.
    let n = c.args.name in
    ap (λ us. meant.term (trees.tree p (trees.DataAt n) us)) (parts_each c.in-Some.params.items)
    ∙ sym (ap (λ o. meant.variable p (meant.token n.at k n.name ∷ optional_brackets o ∷ [])) c.in-Some.is)
