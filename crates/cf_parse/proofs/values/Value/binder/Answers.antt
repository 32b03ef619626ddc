use Rattle.cf_parse.proofs.Only.{binder_only}
use Rattle.cf_parse.proofs.values.Value.binder.Goals as goal

pub returns-in_default : goal.returns-in_default
returns-in_default c = λ s h. absurd (c.in_default.not-Binder (binder_only s c.args.self h).0 (binder_only s c.args.self h).1)
