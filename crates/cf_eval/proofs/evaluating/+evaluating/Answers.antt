use Rattle.std.proofs.Common.{◌∙◌, sym, ap, arith, max}
use Rattle.std.proofs.Common.{◌∷◌, [], false}
use Rattle.cf_term.specs.Core.{depth, depth_all, later, here, AppH}
use Rattle.cf_term.specs.Evaluation.{AllDone, Done, evaluate, finish}
use Rattle.cf_term.specs.Numbered.{places, terms}
use Rattle.cf_term.specs.Same.{bare}
use Rattle.cf_term.specs.Substitution.{substitute}
use Rattle.cf_term.specs.View.{tm_of}
use Rattle.cf_value.specs.Contexts.{below}
use Rattle.cf_value.specs.Heads.{head_of}
use Rattle.cf_value.specs.Seen.{seen_parts}
use Rattle.cf_value.specs.Stands.{env_at, term_at, terms_at, with_levels}
use Rattle.cf_value.specs.Val.{values_in}
use Rattle.cf_eval.specs.Bulk.{bulks}
use Rattle.cf_eval.specs.Bulk.{bulk, goal_bulk, part_bulk}
use Rattle.cf_eval.specs.Goals.{goal_of, part_term}
use Rattle.cf_eval.proofs.Applied.{carry, form_goes, err_all}
use Rattle.cf_eval.proofs.Binding.{values_with, bulks_with, under_is}
use Rattle.cf_eval.proofs.Formed.{is_value, step_some, finish_step, finish_stays}
use Rattle.cf_eval.proofs.Marked.{is_variable}
use Rattle.cf_eval.proofs.Ranks.{rank_mono, ok_more}
use Rattle.cf_eval.proofs.Walked.{seen_deep, next_closed, not_past, one_more, all_made, count_seen, part_refused}
use Rattle.cf_eval.proofs.evaluating.+evaluating.Goals as goal

pub form_of-returns-clause-equal : goal.form_of-returns-clause-equal
form_of-returns-clause-equal t c = λ at.
    let form = c.in_ok-shape.ensures.shape in
    carry c.finished.result (λ r. Done (term_at at r.value.value) r.left)
    (form_goes c.evaluation_goes_on.ensures c.in_ok-shape.shape (tm_of c.args.node.now) (env_at at c.args.env.now) c.args.steps c.args.nest form
    ∙ ap (finish evaluate c.args.nest (head_of c.in_ok-shape.shape)) (c.in_ok-all.ensures.equal at ∙ ap (λ qs. AllDone (terms_at at c.args.depth qs (seen_parts c.in_ok-all.all.parts.items)) c.in_ok-all.all.left) (ap places form)))
    (c.finished.ensures.equal at)

pub parts_in_order-part_of-requires : goal.parts_in_order-part_of-requires
parts_in_order-part_of-requires t c =
    let ps = places (tm_of c.args.node.now) in
    let ts = terms (tm_of c.args.node.now) in
    let low = seen_deep ps ts c.loop-i.i c.in-Some.p c.in-Some.ensures in
    let room = rank_mono c.args.nest (max (bulks c.args.env.now) (depth c.in-Some.p.term.now.value)) (max (bulks c.args.env.now) (depth_all ts)) (omega (arith, low)) in
    (omega (arith, low, room), (next_closed ps ts c.loop-i.i (values_in c.args.env.now) c.in-Some.p c.in-Some.ensures c.loop-i.invariant.3, c.requires.values))

pub parts_in_order-returns-in_err-one-in-Some-clause-equal : goal.parts_in_order-returns-in_err-one-in-Some-clause-equal
parts_in_order-returns-in_err-one-in-Some-clause-equal t c = λ at.
    let ps = places (tm_of c.args.node.now) in
    let ts = terms (tm_of c.args.node.now) in
    err_all c.from_residual.result (λ r. AllDone (terms_at at c.args.depth ps (seen_parts r.parts.items)) r.left) _ c.in_err-one-in-Some.field-0.0 c.from_residual.ensures.0 c.from_residual.ensures.1
    (part_refused c.evaluation_goes_on.ensures c.in_err-one-in-Some.field-0.0 (λ r. Done (part_term at c.args.depth c.in-Some.p.binds r.part) r.left) (λ r. AllDone (terms_at at c.args.depth ps (seen_parts r.parts.items)) r.left)
    ps ts c.args.env.now c.args.depth c.args.steps c.args.nest c.loop-i.made.items c.loop-i.i c.loop-i.left c.in-Some.p at c.in-Some.ensures c.loop-i.invariant (c.in_err-one-in-Some.ensures.equal at))

pub parts_in_order-unreachable-requires : goal.parts_in_order-unreachable-requires
parts_in_order-unreachable-requires t c = not_past (places (tm_of c.args.node.now)) (terms (tm_of c.args.node.now)) c.loop-i.i (omega arith) c.in-None.ensures

pub parts_in_order-loop-i-preserved : goal.parts_in_order-loop-i-preserved
parts_in_order-loop-i-preserved t c =
    rw c.in_ok-push-in-Some.ensures
    (one_more c.evaluation_goes_on.ensures (places (tm_of c.args.node.now)) (terms (tm_of c.args.node.now)) c.args.env.now c.args.depth c.args.steps c.args.nest c.loop-i.made.items c.loop-i.i c.loop-i.left c.in-Some.p c.in_ok-one-in-Some.one.part c.in_ok-one-in-Some.one.left
    c.in-Some.ensures c.loop-i.invariant c.in_ok-one-in-Some.ensures.equal c.in_ok-one-in-Some.ensures.known c.in_ok-one-in-Some.ensures.no_deeper c.in_ok-one-in-Some.ensures.spends)

pub parts_in_order-returns-clause-equal : goal.parts_in_order-returns-clause-equal
parts_in_order-returns-clause-equal t c = λ at.
    all_made (places (tm_of c.args.node.now)) (terms (tm_of c.args.node.now)) c.args.env.now c.args.depth c.args.steps c.args.nest c.loop-i.made.items c.loop-i.i c.loop-i.left (omega arith) c.loop-i.invariant at

pub parts_in_order-returns-clause-count : goal.parts_in_order-returns-clause-count
parts_in_order-returns-clause-count t c = omega (arith, count_seen c.loop-i.made.items, c.loop-i.invariant.0)

pub under-value_of-requires : goal.under-value_of-requires
under-value_of-requires t c =
    let made = c.in_ok-inner.ensures in
    let closed = rw (sym c.in_ok-count.ensures, sym (values_with c.in_ok-count.count c.args.depth c.args.env.now), sym made) at c.requires.closed in
    let values = rw (sym made, sym c.in_ok-deeper.ensures) at (c.variables_are_values.ensures c.in_ok-count.count c.args.depth c.args.env.now c.requires.values) in
    let bulk = ap bulks made ∙ bulks_with c.in_ok-count.count c.args.depth c.args.env.now in
    (rw bulk (omega arith), (closed, values))

pub under-returns-clause-equal : goal.under-returns-clause-equal
under-returns-clause-equal t c = λ at.
    let is = under_is c.environment_under_binders.ensures c.in_ok-count.count c.args.binds c.args.depth c.args.env.now c.in_ok-inner.inner c.in_ok-count.ensures c.in_ok-inner.ensures c.requires.values at in
    carry c.value_of.result (λ r. Done (term_at (with_levels c.args.binds c.args.depth at) r.value.value) r.left) (ap (λ s. evaluate c.args.steps c.args.nest (substitute s (bare c.args.t.now))) (sym is))
    (c.value_of.ensures.equal (with_levels c.args.binds c.args.depth at))

pub under-returns-clause-no_deeper : goal.under-returns-clause-no_deeper
under-returns-clause-no_deeper t c = rw (c.in_ok-inner.ensures, bulks_with c.in_ok-count.count c.args.depth c.args.env.now) at c.value_of.ensures.no_deeper

pub value_of-returns-in_ok-found-in-Some-clause-equal : goal.value_of-returns-in_ok-found-in-Some-clause-equal
value_of-returns-in_ok-found-in-Some-clause-equal t c = λ at.
    let v = c.in_ok-found-in-Some.field-0.value.value in
    ap (λ x. evaluate c.args.steps c.args.nest (substitute (env_at at c.args.env.now) (bare x))) (sym c.t.view_is ∙ is_variable c.t.inside.inserted (tm_of c.t.inside.node) c.in-Some.i c.in-Some.ensures)
    ∙ ap (evaluate c.args.steps c.args.nest) (c.in_ok-found-in-Some.ensures.stands at)
    ∙ is_value (below c.args.depth) v c.in_ok-found-in-Some.ensures.known at c.args.steps c.args.nest
    ∙ ap (Done (term_at at v)) (sym c.in_ok-found-in-Some.ensures.left)

pub opened-returns-clause-equal : goal.opened-returns-clause-equal
opened-returns-clause-equal t c = λ at.
    let put = c.argument_put_in.ensures (bare c.args.body.now.body.value) c.args.v.now.value c.args.body.now.env at in
    carry c.value_of.result (λ r. Done (term_at at r.value.value) r.left) (ap (evaluate c.args.steps c.args.nest) put) (rw (c.in_ok-env.ensures, c.in_ok-shared.ensures, c.deref.ensures) at (c.value_of.ensures.equal at))

pub recursor-returns-clause-equal : goal.recursor-returns-clause-equal
recursor-returns-clause-equal t c = λ at.
    let eq = ap (λ qs. terms_at at c.args.depth qs (seen_parts c.in_ok-parts.parts.items)) c.requires.shape ∙ ap (terms_at at c.args.depth (later ∷ later ∷ later ∷ here ∷ [])) c.in_ok-parts.ensures in
    carry c.finished.result (λ r. Done (term_at at r.value.value) r.left) (ap (λ ts. finish evaluate c.args.nest (head_of c.args.shape) (AllDone ts c.args.left)) (sym eq)) (c.finished.ensures.equal at)

pub finished-taken-requires : goal.finished-taken-requires
finished-taken-requires t c =
    let fine = step_some (below c.args.depth) (head_of c.args.shape) c.args.depth (seen_parts c.args.parts.items) (goal_of c.in-Some.next) c.requires.fits c.requires.known c.in-Some.ensures in
    let room = rank_mono c.args.nest (goal_bulk (goal_of c.in-Some.next)) (part_bulk (seen_parts c.args.parts.items)) fine.2 in
    (omega (arith, room), fine.1)

pub finished-returns-in-Some-clause-equal : goal.finished-returns-in-Some-clause-equal
finished-returns-in-Some-clause-equal t c = λ at.
    carry c.taken.result (λ r. Done (term_at at r.value.value) r.left)
    (finish_step (below c.args.depth) (head_of c.args.shape) c.args.depth (seen_parts c.args.parts.items) (goal_of c.in-Some.next) c.requires.fits c.requires.known c.in-Some.ensures at c.args.left c.args.nest)
    (c.taken.ensures.equal at)

pub finished-returns-in-Some-clause-no_deeper : goal.finished-returns-in-Some-clause-no_deeper
finished-returns-in-Some-clause-no_deeper t c =
    let fine = step_some (below c.args.depth) (head_of c.args.shape) c.args.depth (seen_parts c.args.parts.items) (goal_of c.in-Some.next) c.requires.fits c.requires.known c.in-Some.ensures in
    ok_more c.taken.result (λ r. bulk r.value.value) (goal_bulk (goal_of c.in-Some.next)) (part_bulk (seen_parts c.args.parts.items)) c.taken.ensures.no_deeper fine.2

pub finished-returns-in_ok-formed-in-None-clause-equal : goal.finished-returns-in_ok-formed-in-None-clause-equal
finished-returns-in_ok-formed-in-None-clause-equal t c = λ at.
    finish_stays (below c.args.depth) (head_of c.args.shape) c.args.depth (seen_parts c.args.parts.items) c.requires.fits c.requires.known (sym c.in-None.ensures) at c.args.left c.args.nest
    ∙ ap (λ x. Done x c.args.left) (sym (c.in_ok-formed-in-None.ensures.equal at))
    ∙ ap (Done (term_at at c.in_ok-formed-in-None.field-0.value.value)) (sym c.in_ok-formed-in-None.ensures.left)

pub applied-returns-clause-equal : goal.applied-returns-clause-equal
applied-returns-clause-equal t c = λ at.
    carry c.finished.result (λ r. Done (term_at at r.value.value) r.left)
    (ap (λ ps. finish evaluate c.args.nest (AppH false) (AllDone (terms_at at c.args.depth [] ps) c.args.left)) (sym c.in_ok-parts.ensures))
    (c.finished.ensures.equal at)
