use Rattle.cf_printed.proofs.Declared.{printed_lexed}
use Rattle.cf_printed.proofs.laws.tokens_are_pieces.Goals as goal

pub returns : goal.returns
returns c = printed_lexed
