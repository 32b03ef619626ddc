use Rattle.std.proofs.Common.{ap, ◌∙◌, ◌∷◌}
use Rattle.cf_parse.specs.Meaning as meant
use Rattle.cf_parse.specs.Values.{sems}
use Rattle.cf_parse.proofs.taking.put_form.Goals as goal

pub returns : goal.returns
returns c = λ s. c.in_ok-push.ensures s ∙ ap (λ t. meant.term t ∷ sems s c.args.values.now) c.in_ok-form.ensures.ok
