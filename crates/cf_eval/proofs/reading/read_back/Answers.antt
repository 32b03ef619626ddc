use Rattle.std.proofs.Common.{sym, ap, arith}
use Rattle.cf_term.specs.Closed.{IsClosed}
use Rattle.cf_term.specs.Evaluation.{Done}
use Rattle.cf_term.specs.NormalForms.{write_within}
use Rattle.cf_value.specs.Stands.{in_context, term_at}
use Rattle.cf_eval.specs.Scopes.{at_of, context}
use Rattle.cf_eval.specs.Answers.{IsReachedFrom}
use Rattle.cf_eval.proofs.Applied.{carry}
use Rattle.cf_eval.proofs.Outcomes.{answered, read_closed}
use Rattle.cf_eval.proofs.Placed.{in_scope}
use Rattle.cf_eval.proofs.reading.read_back.Goals as goal

pub returns-clause-equal : goal.returns-clause-equal
returns-clause-equal c =
    let same = c.readings_agree.ensures c.args.depth c.args.v.now (in_context c.args.depth) (at_of (context c.args.depth)) c.requires (λ n h. sym (in_scope c.args.depth n h)) in
    carry c.read.result (λ w. Done w.term w.left) (ap (write_within c.args.budget.steps c.args.budget.nest c.args.budget.steps) same) (rw c.context-scope.ensures at (c.read.ensures.equal c.args.budget.steps (omega arith)))

pub returns-clause-closed : goal.returns-clause-closed
returns-clause-closed c =
    let at = in_context c.args.depth in
    let stands = c.value_is_closed.ensures c.args.v.now c.args.depth c.args.depth at (λ n h. omega (arith, h)) c.requires in
    answered c.read.result (λ w. Done w.term w.left) (λ w. IsClosed c.args.depth w.term) (returns-clause-equal c)
    (λ w e. read_closed c.reading_reaches.ensures c.reductions_stay_closed.ensures c.args.depth c.args.budget.steps c.args.budget.nest (term_at at c.args.v.now) w.term w.left e stands)

pub returns-clause-reached : goal.returns-clause-reached
returns-clause-reached c =
    answered c.read.result (λ w. Done w.term w.left) (λ w. IsReachedFrom (term_at (in_context c.args.depth) c.args.v.now) w.term) (returns-clause-equal c)
    (λ w e. c.reading_reaches.ensures (term_at (in_context c.args.depth) c.args.v.now) c.args.budget.steps c.args.budget.nest w.term w.left e)
