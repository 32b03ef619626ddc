use Rattle.std.proofs.Common.{◌∙◌, ap, map, reverse, sym}
use Rattle.cf_parse.proofs.Only.{ctors_none}
use Rattle.cf_parse.specs.Values.{ctor_sem, listed}
use Rattle.cf_parse.proofs.values.Value.ctors.Goals as goal

pub returns-in_default : goal.returns-in_default
returns-in_default c = λ s h. ctors_none s c.args.self h c.in_default.not-Ctors ∙ ap (λ l. listed (map (ctor_sem) (reverse l))) (sym c.new.ensures.items)
