use Rattle.cf_words.proofs.Unique.{one_command}
use Rattle.cf_words.proofs.laws.one_command.Goals as goal

pub returns : goal.returns
returns c = one_command
