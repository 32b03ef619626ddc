use Rattle.std.proofs.Common.{rules, ◌≡◌, ◌++◌, ◌∷◌, [], ◌∙◌, ap, sym, subst}
use Rattle.std.specs.Prelude.{Some}
use Rattle.cf_tree.specs.declared.forms.Node.TheVariants as node
use Rattle.cf_tree.specs.View.{tree_of}
use Rattle.wb_syntax.specs.declared.syntax.Instr.TheVariants.{Binary}
use Rattle.cf_driver.specs.Lowering.{AddsCode}
use Rattle.cf_driver.specs.Sums.{Number, sum_in}
use Rattle.cf_driver.proofs.Sums.{add, adds_both}
use Rattle.cf_driver.proofs.lowering.+push_code.Goals as goal

pub returns-in_ok-push-in-Lit : goal.returns-in_ok-push-in-Lit
returns-in_ok-push-in-Lit t c =
    let v : c.args.t.now ≡ tree_of c.t.inside.at (node.Lit c.in-Lit.z) = sym c.t.view_is ∙ ap (tree_of c.t.inside.at) c.in-Lit.is in
    record {
      sum = Number c.in-Lit.z;
      is_sum = ap sum_in v;
      code = search rules;
      fit = search rules;
    }

pub returns-in_ok-push-in-Prim-Add-default-default :
    goal.returns-in_ok-push-in-Prim-Add-default-default
returns-in_ok-push-in-Prim-Add-default-default t c =
    let a = c.in-Prim-Add-default-default.a.value in
    let b = c.in-Prim-Add-default-default.b.value in
    let f : AddsCode a c.args.out.now c.push_code.new.out = search rules in
    let g : AddsCode b c.push_code.new.out c.push_code-else-not-branch.new.out = search rules in
    let e : c.push-in-Prim-Add-default-default.new.self ≡ c.push_code-else-not-branch.new.out ++ Binary 0x7C ∷ [] = search rules in
    let v : add c.t.inside.at a b ≡ c.args.t.now = search rules in
    subst
    (λ x. AddsCode x c.args.out.now c.push-in-Prim-Add-default-default.new.self)
    v
    (adds_both c.t.inside.at a b c.args.out.now c.push_code.new.out c.push_code-else-not-branch.new.out c.push-in-Prim-Add-default-default.new.self f g e)
