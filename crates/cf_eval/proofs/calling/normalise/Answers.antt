use Rattle.cf_term.specs.Evaluation.{Done, evaluate}
use Rattle.cf_term.specs.Same.{bare}
use Rattle.cf_term.specs.Substitution.{substitute}
use Rattle.cf_value.specs.Stands.{env_at, in_context, term_at}
use Rattle.cf_eval.specs.Answers.{IsReachedFrom}
use Rattle.cf_eval.proofs.Outcomes.{answered, read_after}
use Rattle.cf_eval.proofs.calling.normalise.Goals as goal

pub returns-clause-reached : goal.returns-clause-reached
returns-clause-reached c =
    let at = in_context c.args.depth in
    let put = substitute (env_at at c.args.env.now) (bare c.args.t.now) in
    answered c.read_back.result (λ w. Done w.term w.left) (λ w. IsReachedFrom put w.term) (rw c.deref.ensures at c.read_back.ensures.equal)
    (λ w e. c.reading_of_value_reaches.ensures put c.args.budget.steps c.args.budget.nest w.term w.left
    (read_after c.args.budget.nest (evaluate c.args.budget.steps c.args.budget.nest put) (term_at at c.in_ok-reached.reached.value.value) w.term c.in_ok-reached.reached.left w.left (c.in_ok-reached.ensures.equal at) e))
