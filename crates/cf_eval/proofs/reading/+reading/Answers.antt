use Rattle.std.proofs.Common.{◌≡◌, ◌∙◌, sym, ap, arith}
use mathlib.Core.Path.{subst}
use Rattle.cf_term.specs.Core.{nil, parts}
use Rattle.cf_term.specs.Evaluation.{AllDone, Done}
use Rattle.cf_term.specs.NormalForms.{write_within}
use Rattle.cf_term.specs.View.{listed}
use Rattle.cf_value.specs.Contexts.{below}
use Rattle.cf_value.specs.Heads.{head_of}
use Rattle.cf_value.specs.Seen.{seen_parts, seen_value}
use Rattle.cf_value.specs.Stands.{term_at}
use Rattle.cf_value.specs.Val.{form}
use Rattle.cf_eval.specs.Answers.{Answers}
use Rattle.cf_eval.specs.Scopes.{at_of}
use Rattle.cf_eval.proofs.Applied.{carry, err_all}
use Rattle.cf_eval.proofs.Placed.{scope_is}
use Rattle.cf_eval.proofs.Walked.{count_seen}
use Rattle.cf_eval.proofs.Writes.{write_next, part_known, one_written, all_written, writing_refused}
use Rattle.cf_eval.proofs.reading.+reading.Goals as goal

pub read-returns-in-Form-clause-equal : goal.read-returns-in-Form-clause-equal
read-returns-in-Form-clause-equal t c = λ n h.
    let is : form (head_of c.in-Form.shape.value) c.in-Form.first (seen_parts c.in-Form.parts.items) ≡ c.args.v.now = ap seen_value (sym c.in-Form.is) ∙ c.v.view_is in
    subst (λ x. Answers c.read_form.result (λ w. Done w.term w.left) (write_within n c.args.nest c.args.steps (term_at (at_of c.args.scope.now) x))) is
    (write_next c.read_form.result n c.args.nest c.args.steps (term_at (at_of c.args.scope.now) (form (head_of c.in-Form.shape.value) c.in-Form.first (seen_parts c.in-Form.parts.items))) c.if-steps-eq0.false h
    (λ m g. rw c.deref.ensures at (c.read_form.ensures.equal m g)))

pub read_parts-read_part-requires : goal.read_parts-read_part-requires
read_parts-read_part-requires t c =
    let at = rw c.deref.ensures.value at c.in-Some.ensures.lookup in (
      omega (arith, c.loop-i.invariant.3),
      part_known (below c.args.depth) (at_of c.args.scope.now) c.args.first c.binds-binds.result (parts (head_of c.args.shape.now)) c.args.parts.now.items c.args.steps c.args.nest c.loop-i.terms.items c.loop-i.i c.loop-i.left c.in-Some.part.now at.3.0 at.1 c.binds-binds.ensures c.loop-i.invariant,
    )

pub read_parts-unreachable-requires : goal.read_parts-unreachable-requires
read_parts-unreachable-requires t c =
    let at = rw c.deref.ensures.value at c.in-None.ensures.lookup in
    omega (arith, at.3, c.loop-i-test.true)

pub read_parts-returns-in_err-one-in-Some-clause-equal : goal.read_parts-returns-in_err-one-in-Some-clause-equal
read_parts-returns-in_err-one-in-Some-clause-equal t c = λ n h.
    let at = rw c.deref.ensures.value at c.in-Some.ensures.lookup in
    err_all c.from_residual.result (λ r. AllDone (listed r.terms.items nil) r.left) _ c.in_err-one-in-Some.field-0.0 c.from_residual.ensures.0 c.from_residual.ensures.1
    (writing_refused c.in_err-one-in-Some.field-0.0 (λ w. Done w.term w.left) (λ r. AllDone (listed r.terms.items nil) r.left) (below c.args.depth) (at_of c.args.scope.now) c.args.first c.binds-binds.result (parts (head_of c.args.shape.now)) c.args.parts.now.items
    c.args.steps c.args.nest c.loop-i.terms.items c.loop-i.i c.loop-i.left c.in-Some.part.now at.3.0 at.1 c.binds-binds.ensures c.loop-i.invariant c.in_err-one-in-Some.ensures.equal n h)

pub read_parts-loop-i-preserved : goal.read_parts-loop-i-preserved
read_parts-loop-i-preserved t c =
    let at = rw c.deref.ensures.value at c.in-Some.ensures.lookup in
    rw c.in_ok-push-in-Some.ensures
    (one_written (below c.args.depth) (at_of c.args.scope.now) c.args.first c.binds-binds.result (parts (head_of c.args.shape.now)) c.args.parts.now.items c.args.steps c.args.nest c.loop-i.terms.items c.loop-i.i c.loop-i.left c.in-Some.part.now c.in_ok-term-in-Some.term c.in_ok-one-in-Some.one.left
    at.3.0 at.1 c.binds-binds.ensures c.loop-i.invariant (λ n h. c.in_ok-one-in-Some.ensures.equal n h ∙ ap (λ x. Done x c.in_ok-one-in-Some.one.left) (sym c.in_ok-term-in-Some.ensures)) c.in_ok-one-in-Some.ensures.spends)

pub read_parts-returns-clause-equal : goal.read_parts-returns-clause-equal
read_parts-returns-clause-equal t c = λ n h.
    all_written (below c.args.depth) (at_of c.args.scope.now) c.args.first (parts (head_of c.args.shape.now)) c.args.parts.now.items c.args.steps c.args.nest c.loop-i.terms.items c.loop-i.i c.loop-i.left (omega arith) c.loop-i.invariant n h

pub read_parts-returns-clause-count : goal.read_parts-returns-clause-count
read_parts-returns-clause-count t c = omega (arith, count_seen c.args.parts.now.items, c.loop-i.invariant.0)

pub read_under-returns-clause-equal : goal.read_under-returns-clause-equal
read_under-returns-clause-equal t c = λ n h.
    carry c.read.result (λ w. Done w.term w.left)
    (ap (λ g. write_within n c.args.nest c.args.steps (term_at g c.args.v.now)) (sym (scope_is c.in_ok-count.count c.args.binds c.args.first c.args.scope.now c.in_ok-inner.inner c.in_ok-count.ensures c.in_ok-inner.ensures)))
    (c.read.ensures.equal n h)
