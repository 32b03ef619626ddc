use Rattle.std.proofs.Common.{◌∙◌, ap, map, reverse, sym}
use Rattle.cf_parse.proofs.Only.{tokens_none}
use Rattle.cf_parse.specs.Values.{token_of, listed}
use Rattle.cf_parse.proofs.values.Value.names.Goals as goal

pub returns-in_default : goal.returns-in_default
returns-in_default c = λ s h. tokens_none s c.args.self h c.in_default.not-Tokens ∙ ap (λ l. listed (map (token_of s) (reverse l))) (sym c.new.ensures.items)
