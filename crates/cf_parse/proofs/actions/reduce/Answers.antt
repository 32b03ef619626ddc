use Rattle.std.proofs.Common.{◌∙◌, ap}
use Rattle.cf_parse.proofs.Stages.{mapped}
use Rattle.cf_parse.specs.Evaluation.{reduced}
use Rattle.cf_parse.specs.Values.{sems}
use Rattle.cf_parse.proofs.actions.reduce.Goals as goal

pub returns : goal.returns
returns c = mapped c.reduce_at.result (λ _ h k ks e. h ∙ ap (λ p. reduced c.args.production p (sems c.args.source.now c.args.values.now)) (c.place.ensures k ks e)) c.reduce_at.ensures
