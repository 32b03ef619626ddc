use Rattle.std.proofs.Common.{◌≡◌, ◌∙◌, [], ap, arith, sym, Some}
use Rattle.cf_tree.specs.declared.forms.Node.TheVariants as node
use Rattle.cf_tree.specs.Tree.{part, none, depth}
use Rattle.cf_tree.specs.View.{one_each, tree_of, variables}
use Rattle.cf_tree.proofs.Parts.{behind_each, without_each, without_definitions, within_each, within_branches, within_definitions}
use Rattle.cf_tree.proofs.classes.+holes.Goals as goal

pub all_hole_free-hole_free-requires : goal.all_hole_free-hole_free-requires
all_hole_free-hole_free-requires t c =
    let e = c.deref-t-items.ensures.value in
    let w = within_each c.deref-t-items.result.now c.loop-t.t-index c.t-item.result c.loop-t-test.true c.t-item.is in
    let v = rw e at w in
    (omega (arith, v), tt)

pub branches_hole_free-hole_free-requires : goal.branches_hole_free-hole_free-requires
branches_hole_free-hole_free-requires t c =
    let e = c.deref-b-items.ensures.value in
    let w = within_branches c.deref-b-items.result.now c.loop-b.b-index c.b-item.result c.loop-b-test.true c.b-item.is in
    let v = rw e at w in
    let k : depth c.deref.result.now ≡ depth c.b-item.result.body.value = cc in
    (omega (arith, v, k), tt)

pub definitions_hole_free-hole_free-requires : goal.definitions_hole_free-hole_free-requires
definitions_hole_free-hole_free-requires t c =
    let e = c.deref-d-items.ensures.value in
    let w = within_definitions c.deref-d-items.result.now c.loop-d.d-index c.d-item.result c.loop-d-test.true c.d-item.is in
    let v = rw e at w in
    let k : depth c.deref.result.now ≡ depth c.d-item.result.ty.value = cc in
    (omega (arith, v.0, k), tt)

pub definitions_hole_free-hole_free-requires-then-hole_free : goal.definitions_hole_free-hole_free-requires-then-hole_free
definitions_hole_free-hole_free-requires-then-hole_free t c =
    let e = c.deref-d-items.ensures.value in
    let w = within_definitions c.deref-d-items.result.now c.loop-d.d-index c.d-item.result c.loop-d-test.true c.d-item.is in
    let v = rw e at w in
    let k : depth c.deref-then-hole_free.result.now ≡ depth c.d-item.result.value.value = cc in
    (omega (arith, v.1, k), tt)

pub hole_free-definitions_hole_free-requires : goal.hole_free-definitions_hole_free-requires
hole_free-definitions_hole_free-requires t c =
    let ds = c.in-LetRec.definitions.items in
    let e : tree_of c.t.inside.at (node.LetRec c.in-LetRec.definitions c.in-LetRec.body) ≡ c.args.t.now = ap (tree_of c.t.inside.at) (sym c.in-LetRec.is) ∙ c.t.view_is in
    let k = ap depth e in
    let l = without_definitions [] (variables ds) ds (part (variables ds) c.in-LetRec.body.value none) in
    (omega (arith, k, l), tt)

pub hole_free-all_hole_free-requires-in-Some : goal.hole_free-all_hole_free-requires-in-Some
hole_free-all_hole_free-requires-in-Some t c =
    let e : tree_of c.t.inside.at (node.Con c.in-Con.name (Some c.in-Some.params) c.in-Con.fields) ≡ c.args.t.now = ap (λ ps. tree_of c.t.inside.at (node.Con c.in-Con.name ps c.in-Con.fields)) (sym c.in-Some.is) ∙ ap (tree_of c.t.inside.at) (sym c.in-Con.is) ∙ c.t.view_is in
    let k = ap depth e in
    let l = without_each c.in-Some.params.items (one_each c.in-Con.fields.items none) in
    (omega (arith, k, l), tt)

pub hole_free-all_hole_free-requires-then-all_hole_free : goal.hole_free-all_hole_free-requires-then-all_hole_free
hole_free-all_hole_free-requires-then-all_hole_free t c =
    let e : tree_of c.t.inside.at (node.Con c.in-Con.name (Some c.in-Some.params) c.in-Con.fields) ≡ c.args.t.now = ap (λ ps. tree_of c.t.inside.at (node.Con c.in-Con.name ps c.in-Con.fields)) (sym c.in-Some.is) ∙ ap (tree_of c.t.inside.at) (sym c.in-Con.is) ∙ c.t.view_is in
    let k = ap depth e in
    let l = behind_each c.in-Some.params.items (one_each c.in-Con.fields.items none) in
    (omega (arith, k, l), tt)
