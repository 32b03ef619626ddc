use Rattle.std.proofs.Common.{ap, ◌∙◌}
use Rattle.wb_plain.specs.Effects.{effect}
use Rattle.wb_plain.specs.Follows.{step_of, is_step}
use Rattle.wb_plain.proofs.Meaning.{means, kept, follows_is, keeps_is}
use Rattle.wb_plain.proofs.Overfull.{over_spares}
use Rattle.wb_plain.proofs.Writing.{spares, store_is, room_is, step_is}
use Rattle.wb_plain.proofs.laws.effects_are_steps.Goals as goal

pub returns : goal.returns
returns c = record {
  follow = λ m room d rest i o old new h e. follows_is room o d rest (step_of m room d rest i old) (effect room i old) old new (means room m d rest old i h) (over_spares room old i) e;
  keep = λ room i o old new h e. (keeps_is room o (effect room i old) old new (kept room old i h) e, room_is room o (effect room i old) old new (kept room old i h) e);
  spare = λ room i o old new h e. store_is o (effect room i old) old new (spares room old i h) e;
  answer = λ m room d rest i s h. ap is_step (means room m d rest s i h).0 ∙ step_is d rest s (effect room i s);
}
