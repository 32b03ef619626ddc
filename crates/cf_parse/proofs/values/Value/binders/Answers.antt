use Rattle.std.proofs.Common.{◌∙◌, ap, map, reverse, sym}
use Rattle.cf_parse.proofs.Only.{binders_none}
use Rattle.cf_parse.specs.Values.{binder_sem, listed}
use Rattle.cf_parse.proofs.values.Value.binders.Goals as goal

pub returns-in_default : goal.returns-in_default
returns-in_default c = λ s h. binders_none s c.args.self h c.in_default.not-Binders ∙ ap (λ l. listed (map (binder_sem) (reverse l))) (sym c.new.ensures.items)
