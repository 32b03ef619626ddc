use Rattle.std.proofs.Common.{[], refl, reverse}
use Rattle.cf_tree.specs.Tree.{Plain, part, tree}
use Rattle.cf_tree.specs.View.{branches}
use Rattle.cf_tree.specs.declared.heads.Head.TheVariants as head
use Rattle.cf_parse.proofs.Reducing.{cases_made, of_seven}
use Rattle.cf_parse.proofs.Stages.{mapped}
use Rattle.cf_parse.specs.Kinds as kind
use Rattle.cf_parse.specs.Meaning as meant
use Rattle.cf_parse.proofs.terms.cases.Goals as goal

pub returns : goal.returns
returns c =
    let s = c.args.source.now in
    let p = c.args.place in
    let t = c.in_ok-scrutinee.scrutinee.value in
    let node = cases_made p t _ c.optional_term-ty.result (reverse c.in_ok-arms.arms.items) (c.discard.ensures s).0 (c.discard-2.ensures s).0 (c.discard-3.ensures s).0 (c.discard-4.ensures s).0 (λ i. tree p (Plain head.Case) (part [] t (part [] (c.in_ok-ty.ensures i) (branches (c.arms_in_order.ensures i))))) in
    mapped c.put_form.result (λ _ e. of_seven meant.cases p c.requires ((c.discard.ensures s).1 kind.Token) (c.in_ok-scrutinee.ensures s) (c.pop.ensures s (kind.Maybe kind.Term)) ((c.discard-2.ensures s).1 kind.Token) ((c.discard-3.ensures s).1 kind.Token) (c.pop-2.ensures s (kind.Many kind.Arm)) ((c.discard-4.ensures s).1 kind.Token) (λ h. refl) (λ h. refl) (c.optional_term-ty.ensures s) (λ h. refl) (λ h. refl) (c.in_ok-arms.ensures s) (λ h. refl) (e s) node) c.put_form.ensures
