use Rattle.cf_parse.proofs.Only.{token_only}
use Rattle.cf_parse.proofs.values.Value.token.Goals as goal

pub returns-in_default : goal.returns-in_default
returns-in_default c = λ s j i h.
    let t = token_only s j c.args.self.now i h in
    absurd (c.in_default.not-Token t.0 t.1)
