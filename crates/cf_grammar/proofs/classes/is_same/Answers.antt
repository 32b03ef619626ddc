use Rattle.cf_grammar.proofs.Equal.{decides}
use Rattle.cf_grammar.proofs.classes.is_same.Goals as goal

pub returns : goal.returns
returns c = decides c.eq.result c.args.one c.args.other c.eq.ensures
