use Rattle.std.proofs.Common.{◌∙◌, ap, map, reverse, sym}
use Rattle.cf_parse.proofs.Only.{terms_none}
use Rattle.cf_parse.specs.Values.{term_of, listed}
use Rattle.cf_parse.proofs.values.Value.terms.Goals as goal

pub returns-in_default : goal.returns-in_default
returns-in_default c = λ s h. terms_none s c.args.self h c.in_default.not-Terms ∙ ap (λ l. listed (map (term_of) (reverse l))) (sym c.new.ensures.items)
