use Rattle.cf_parse.proofs.Only.{bracketed_or_not_none}
use Rattle.cf_parse.proofs.values.Value.bracketed.Goals as goal

pub returns-in_default : goal.returns-in_default
returns-in_default c = λ s h. bracketed_or_not_none s c.args.self h c.in_default.not-Bracketed
