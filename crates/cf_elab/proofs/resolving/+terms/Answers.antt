use Rattle.std.proofs.Common.{◌≡◌, ◌∙◌, ◌+◌, [], ap, sym, refl, length, drop, arith, Some, rules}
use Rattle.std.proofs.lemmas.List.{length_push}
use Rattle.cf_term.specs.View.{listed}
use Rattle.cf_tree.specs.declared.forms.Node.TheVariants as node
use Rattle.cf_tree.specs.Tree.{part, none, depth}
use Rattle.cf_tree.specs.View.{one_each, definitions, variables, binders_of, tree_of}
use Rattle.cf_elab.specs.Steps.{RefusesFront}
use Rattle.cf_elab.proofs.Fronts.{left, binders_count, variables_count, each_deep, definition_deep, branch_deep, each_split, definitions_split}
use Rattle.cf_elab.proofs.Loops.{err_is, each_init, each_more, each_stuck, each_done, defined_init, defined_more, defined_stuck, defined_done, letrec_read, letrec_refused, branches_init, branches_more, branches_stuck, branches_done, branch_read, data_refused, con_refused, fields_refused, holes_refused}
use Rattle.cf_elab.proofs.resolving.+terms.Goals as goal

pub all-loop-t-init : goal.all-loop-t-init
all-loop-t-init t c =
    (each_init c.args.g.now c.args.scope.now.locals c.args.ts.now.items c.args.scope.now.holes c.new-read.result.items c.new-read.ensures.items, ap length c.new-read.ensures.items, refl)

pub all-child-requires : goal.all-child-requires
all-child-requires t c =
    let e = c.deref-t-items.ensures.value in
    let w = each_deep c.deref-t-items.result.now c.loop-t.t-index c.t-item.result c.loop-t-test.true c.t-item.is in
    let v = rw e at w in
    (omega (arith, v), tt)

pub all-returns-in_err-t-clause-refused : goal.all-returns-in_err-t-clause-refused
all-returns-in_err-t-clause-refused t c =
    let w = each_stuck c.args.g.now c.args.scope.now.locals c.loop-t.scope.locals c.args.ts.now.items c.deref-t-items.result.now c.loop-t.t-index c.t-item.result c.args.scope.now.holes c.loop-t.scope.holes c.loop-t.read.items c.in_err-t.field-0.0 c.deref-t-items.ensures.value c.loop-t-test.true c.t-item.is c.loop-t.invariant.2 c.loop-t.invariant.0 c.in_err-t.ensures.refused in
    err_is c.from_residual.result (λ e. RefusesFront c.args.g.now c.args.scope.now.locals (one_each c.args.ts.now.items) c.args.scope.now.holes e) c.in_err-t.field-0.0 c.from_residual.ensures.1 w

pub all-loop-t-preserved : goal.all-loop-t-preserved
all-loop-t-preserved t c = (
  each_more c.args.g.now c.args.scope.now.locals c.loop-t.scope.locals c.args.ts.now.items c.deref-t-items.result.now c.loop-t.t-index c.t-item.result c.args.scope.now.holes c.loop-t.scope.holes c.child.new.scope.holes c.loop-t.read.items c.push.new.self.items c.in_ok-t.t c.deref-t-items.ensures.value c.loop-t-test.true c.t-item.is c.loop-t.invariant.2 c.in_ok-push.ensures.items c.loop-t.invariant.0 c.in_ok-t.ensures.read,
  ap length c.in_ok-push.ensures.items ∙ length_push c.loop-t.read.items c.in_ok-t.t ∙ ap (λ n. n + 1) c.loop-t.invariant.1,
  c.in_ok-t.ensures.locals ∙ c.loop-t.invariant.2,
)

pub all-returns-clause-read : goal.all-returns-clause-read
all-returns-clause-read t c =
    each_done c.args.g.now c.args.scope.now.locals c.args.ts.now.items c.deref-t-items.result.now c.loop-t.t-index c.args.scope.now.holes c.loop-t.scope.holes c.loop-t.read.items c.deref-t-items.ensures.value c.loop-t-test.false c.loop-t.invariant.0

pub all-returns-clause-count : goal.all-returns-clause-count
all-returns-clause-count t c =
    let n : length c.deref-t-items.result.now ≡ length c.args.ts.now.items = ap length c.deref-t-items.ensures.value in
    let i = c.loop-t.invariant.1 in
    let below = c.loop-t.auto.t-index-end in
    omega (arith, n, i, below, c.loop-t-test.false)

pub all-returns-clause-locals : goal.all-returns-clause-locals
all-returns-clause-locals t c = c.loop-t.invariant.2

pub alternative-returns-clause-read : goal.alternative-returns-clause-read
alternative-returns-clause-read t c =
    let b = c.args.b.now in
    let bs = binders_of b.names.items in
    let n : c.len.result ≡ length b.names.items = search rules in
    branch_read c.args.g.now c.args.scope.now.locals c.enter.new.self b.ctor bs b.body.value c.deref.result.now c.args.scope.now.holes c.child.new.scope.holes c.in_ok-number.number c.in_ok-names.names c.in_ok-body.body.value
    c.in_ok-number.ensures.value c.in_ok-enter.ensures.entered c.deref.ensures (c.in_ok-names.ensures.value ∙ n ∙ sym (binders_count b.names.items)) c.in_ok-body.ensures.read

pub alternative-returns-clause-locals : goal.alternative-returns-clause-locals
alternative-returns-clause-locals t c =
    let b = c.args.b.now in
    let bs = binders_of b.names.items in
    let n : c.len-2.result ≡ length b.names.items = search rules in
    c.leave.ensures ∙ (λ i. drop ((n ∙ sym (binders_count b.names.items)) i) ((c.in_ok-body.ensures.locals ∙ c.in_ok-enter.ensures.entered) i)) ∙ left bs c.args.scope.now.locals

pub alternatives-loop-b-init : goal.alternatives-loop-b-init
alternatives-loop-b-init t c =
    (branches_init c.args.g.now c.args.scope.now.locals c.args.bs.now.items c.args.scope.now.holes c.new-read.result.items c.new-read.ensures.items, refl)

pub alternatives-alternative-requires : goal.alternatives-alternative-requires
alternatives-alternative-requires t c =
    let e = c.deref-b-items.ensures.value in
    let w = branch_deep c.deref-b-items.result.now c.loop-b.b-index c.b-item.result c.loop-b-test.true c.b-item.is in
    let v = rw e at w in
    (omega (arith, v), tt)

pub alternatives-returns-in_err-b-clause-refused : goal.alternatives-returns-in_err-b-clause-refused
alternatives-returns-in_err-b-clause-refused t c =
    let w = branches_stuck c.args.g.now c.args.scope.now.locals c.loop-b.scope.locals c.args.bs.now.items c.deref-b-items.result.now c.loop-b.b-index c.b-item.result c.args.scope.now.holes c.loop-b.scope.holes c.loop-b.read.items c.in_err-b.field-0.0 c.deref-b-items.ensures.value c.loop-b-test.true c.b-item.is c.loop-b.invariant.1 c.loop-b.invariant.0 c.in_err-b.ensures.refused in
    search (rules, w)

pub alternatives-loop-b-preserved : goal.alternatives-loop-b-preserved
alternatives-loop-b-preserved t c = (
  branches_more c.args.g.now c.args.scope.now.locals c.loop-b.scope.locals c.args.bs.now.items c.deref-b-items.result.now c.loop-b.b-index c.b-item.result c.args.scope.now.holes c.loop-b.scope.holes c.alternative.new.scope.holes c.loop-b.read.items c.push.new.self.items c.in_ok-b.b c.deref-b-items.ensures.value c.loop-b-test.true c.b-item.is c.loop-b.invariant.1 c.in_ok-push.ensures.items c.loop-b.invariant.0 c.in_ok-b.ensures.read,
  c.in_ok-b.ensures.locals ∙ c.loop-b.invariant.1,
)

pub alternatives-returns-clause-read : goal.alternatives-returns-clause-read
alternatives-returns-clause-read t c =
    branches_done c.args.g.now c.args.scope.now.locals c.args.bs.now.items c.deref-b-items.result.now c.loop-b.b-index c.args.scope.now.holes c.loop-b.scope.holes c.loop-b.read.items c.deref-b-items.ensures.value c.loop-b-test.false c.loop-b.invariant.0

pub alternatives-returns-clause-locals : goal.alternatives-returns-clause-locals
alternatives-returns-clause-locals t c = c.loop-b.invariant.1

pub define_all-loop-definition-init : goal.define_all-loop-definition-init
define_all-loop-definition-init t c =
    (defined_init c.args.g.now c.args.scope.now.locals c.args.definitions.now.items c.args.scope.now.holes c.new-read.result.items c.new-read.ensures.items, refl)

pub define_all-define-requires : goal.define_all-define-requires
define_all-define-requires t c =
    let e = c.deref-definition-items.ensures.value in
    let w = definition_deep c.deref-definition-items.result.now c.loop-definition.definition-index c.definition-item.result c.loop-definition-test.true c.definition-item.is in
    let v = rw e at w in
    (omega (arith, v), tt)

pub define_all-returns-in_err-definition-clause-refused : goal.define_all-returns-in_err-definition-clause-refused
define_all-returns-in_err-definition-clause-refused t c =
    let w = defined_stuck c.args.g.now c.args.scope.now.locals c.loop-definition.scope.locals c.args.definitions.now.items c.deref-definition-items.result.now c.loop-definition.definition-index c.definition-item.result c.args.scope.now.holes c.loop-definition.scope.holes c.loop-definition.read.items c.in_err-definition.field-0.0 c.deref-definition-items.ensures.value c.loop-definition-test.true c.definition-item.is c.loop-definition.invariant.1 c.loop-definition.invariant.0 c.in_err-definition.ensures.refused in
    let ds = c.args.definitions.now.items in
    err_is c.from_residual.result (λ e. RefusesFront c.args.g.now c.args.scope.now.locals (definitions (variables ds) ds) c.args.scope.now.holes e) c.in_err-definition.field-0.0 c.from_residual.ensures.1 w

pub define_all-loop-definition-preserved : goal.define_all-loop-definition-preserved
define_all-loop-definition-preserved t c = (
  defined_more c.args.g.now c.args.scope.now.locals c.loop-definition.scope.locals c.args.definitions.now.items c.deref-definition-items.result.now c.loop-definition.definition-index c.definition-item.result c.args.scope.now.holes c.loop-definition.scope.holes c.define.new.scope.holes c.loop-definition.read.items c.push.new.self.items c.in_ok-definition.definition c.deref-definition-items.ensures.value c.loop-definition-test.true c.definition-item.is c.loop-definition.invariant.1 c.in_ok-push.ensures.items c.loop-definition.invariant.0 c.in_ok-definition.ensures.read,
  c.in_ok-definition.ensures.locals ∙ c.loop-definition.invariant.1,
)

pub define_all-returns-clause-read : goal.define_all-returns-clause-read
define_all-returns-clause-read t c =
    defined_done c.args.g.now c.args.scope.now.locals c.args.definitions.now.items c.deref-definition-items.result.now c.loop-definition.definition-index c.args.scope.now.holes c.loop-definition.scope.holes c.loop-definition.read.items c.deref-definition-items.ensures.value c.loop-definition-test.false c.loop-definition.invariant.0

pub define_all-returns-clause-locals : goal.define_all-returns-clause-locals
define_all-returns-clause-locals t c = c.loop-definition.invariant.1

pub below-returns-clause-locals : goal.below-returns-clause-locals
below-returns-clause-locals t c =
    let ds = c.args.definitions.now.items in
    let n : c.len.result ≡ length ds = search rules in
    c.leave.ensures ∙ (λ i. drop ((n ∙ sym (variables_count ds)) i) ((c.in_ok-t.ensures.locals ∙ c.in_ok-enter_definitions.ensures.entered) i)) ∙ left (variables ds) c.args.scope.now.locals

pub con-returns-in_err-fields-clause-refused : goal.con-returns-in_err-fields-clause-refused
con-returns-in_err-fields-clause-refused t c =
    let w = fields_refused c.args.g.now c.args.scope.now.locals c.all.new.scope.locals c.args.name.now.at c.args.name.now (length c.args.params.now.items) c.args.params.now.items (one_each c.args.fields.now.items none) c.args.scope.now.holes c.all.new.scope.holes c.in_ok-number.number (λ r. (r.0, listed c.in_ok-params.params.items r.1)) c.in_err-fields.field-0.0 c.in_ok-number.ensures.value c.in_ok-params.ensures.read c.in_ok-params.ensures.locals (c.in_err-fields.ensures.refused none) in
    search (rules, w)

pub con-returns-in_err-params-clause-refused : goal.con-returns-in_err-params-clause-refused
con-returns-in_err-params-clause-refused t c =
    let us = one_each c.args.fields.now.items none in
    let w = con_refused c.args.g.now c.args.scope.now.locals c.args.name.now.at c.args.name.now (length c.args.params.now.items) (one_each c.args.params.now.items us) c.args.scope.now.holes c.in_ok-number.number c.in_err-params.field-0.0 c.in_ok-number.ensures.value (c.in_err-params.ensures.refused us) in
    search (rules, w)

pub con_at_holes-returns-in_err-fields-clause-refused : goal.con_at_holes-returns-in_err-fields-clause-refused
con_at_holes-returns-in_err-fields-clause-refused t c =
    let w = holes_refused c.args.g.now c.args.scope.now.locals c.args.name.now.at c.args.name.now (one_each c.args.fields.now.items none) c.args.scope.now.holes c.new_holes.new.holes c.in_ok-number.number (listed c.in_ok-params.params.items) c.in_err-fields.field-0.0 c.in_ok-number.ensures.value c.in_ok-params.ensures.value (c.in_err-fields.ensures.refused none) in
    search (rules, w)

pub data-returns-in_err-params-clause-refused : goal.data-returns-in_err-params-clause-refused
data-returns-in_err-params-clause-refused t c =
    let w = data_refused c.args.g.now c.args.scope.now.locals c.args.name.now.at c.args.name.now (one_each c.args.params.now.items none) c.args.scope.now.holes c.in_ok-number.number c.in_err-params.field-0.0 c.in_ok-number.ensures.value (c.in_err-params.ensures.refused none) in
    search (rules, w)

pub form-con-requires : goal.form-con-requires
form-con-requires t c =
    let e : tree_of c.t.inside.at (node.Con c.in-Con.name (Some c.in-Some.params) c.in-Con.fields) ≡ c.args.t.now = ap (λ ps. tree_of c.t.inside.at (node.Con c.in-Con.name ps c.in-Con.fields)) (sym c.in-Some.is) ∙ ap (tree_of c.t.inside.at) (sym c.in-Con.is) ∙ c.t.view_is in
    let k = ap depth e in
    let l = each_split c.in-Some.params.items (one_each c.in-Con.fields.items none) in
    (omega (arith, k, l), tt)

pub form-letrec-requires : goal.form-letrec-requires
form-letrec-requires t c =
    let ds = c.in-LetRec.definitions.items in
    let e : tree_of c.t.inside.at (node.LetRec c.in-LetRec.definitions c.in-LetRec.body) ≡ c.args.t.now = ap (tree_of c.t.inside.at) (sym c.in-LetRec.is) ∙ c.t.view_is in
    let k = ap depth e in
    let l = definitions_split (variables ds) [] ds (part (variables ds) c.in-LetRec.body.value none) in
    let d : depth c.deref-in-LetRec.result.now ≡ depth c.in-LetRec.body.value = cc in
    (omega (arith, k, l, d), tt)

pub letrec-returns-clause-read : goal.letrec-returns-clause-read
letrec-returns-clause-read t c =
    letrec_read c.args.g.now c.args.scope.now.locals c.define_all.new.scope.locals c.args.definitions.now.items c.args.t.now c.args.scope.now.holes c.define_all.new.scope.holes c.below.new.scope.holes c.in_ok-read.read.items c.in_ok-body.body.value c.in_ok-read.ensures.locals c.in_ok-read.ensures.read c.in_ok-body.ensures.read

pub letrec-returns-in_err-read-clause-refused : goal.letrec-returns-in_err-read-clause-refused
letrec-returns-in_err-read-clause-refused t c =
    let ds = c.args.definitions.now.items in
    let w = letrec_refused c.args.g.now c.args.scope.now.locals ds (part (variables ds) c.args.t.now none) c.args.scope.now.holes c.in_err-read.field-0.0 c.in_err-read.ensures.refused in
    search (rules, w)
