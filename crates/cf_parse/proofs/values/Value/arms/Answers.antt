use Rattle.std.proofs.Common.{◌∙◌, ap, map, reverse, sym}
use Rattle.cf_parse.proofs.Only.{arms_none}
use Rattle.cf_parse.specs.Values.{arm_of, listed}
use Rattle.cf_parse.proofs.values.Value.arms.Goals as goal

pub returns-in_default : goal.returns-in_default
returns-in_default c = λ s h. arms_none s c.args.self h c.in_default.not-Arms ∙ ap (λ l. listed (map (arm_of) (reverse l))) (sym c.new.ensures.items)
