use Rattle.std.proofs.Common.{◌∙◌, ap, map, reverse, sym}
use Rattle.cf_parse.proofs.Only.{arguments_none}
use Rattle.cf_parse.specs.Values.{argument_of, listed}
use Rattle.cf_parse.proofs.values.Value.arguments.Goals as goal

pub returns-in_default : goal.returns-in_default
returns-in_default c = λ s h. arguments_none s c.args.self h c.in_default.not-Arguments ∙ ap (λ l. listed (map (argument_of) (reverse l))) (sym c.new.ensures.items)
