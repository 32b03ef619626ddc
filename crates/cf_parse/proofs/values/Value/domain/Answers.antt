use Rattle.cf_parse.proofs.Only.{domain_only}
use Rattle.cf_parse.proofs.values.Value.domain.Goals as goal

pub returns-in_default : goal.returns-in_default
returns-in_default c = λ s h. absurd (c.in_default.not-Domain (domain_only s c.args.self h).0 (domain_only s c.args.self h).1)
