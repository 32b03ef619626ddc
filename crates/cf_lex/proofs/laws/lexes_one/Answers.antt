use Rattle.cf_lex.proofs.Unique.{one_lexed}
use Rattle.cf_lex.proofs.laws.lexes_one.Goals as goal

pub returns : goal.returns
returns c = one_lexed
