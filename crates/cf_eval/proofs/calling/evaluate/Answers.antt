use Rattle.std.proofs.Common.{◌∙◌, ap, sym}
use Rattle.cf_term.specs.Evaluation.{Done}
use Rattle.cf_term.specs.Same.{bare}
use Rattle.cf_term.specs.Substitution.{substitute}
use Rattle.cf_value.specs.Stands.{env_at, in_context, term_at}
use Rattle.cf_eval.proofs.calling.evaluate.Goals as goal

pub returns-clause-reached : goal.returns-clause-reached
returns-clause-reached c =
    let at = in_context c.args.depth in
    let put = substitute (env_at at c.args.env.now) (bare c.args.t.now) in
    c.evaluation_reaches.ensures put c.args.budget.steps c.args.budget.nest (term_at at c.in_ok-value.value) c.in_ok-reached.reached.left
    (c.in_ok-reached.ensures.equal at ∙ ap (λ v. Done (term_at at v) c.in_ok-reached.reached.left) (sym (c.in_ok-value.ensures ∙ c.deref.ensures)))
