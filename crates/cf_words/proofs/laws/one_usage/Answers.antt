use Rattle.cf_words.proofs.Unique.{one_usage}
use Rattle.cf_words.proofs.laws.one_usage.Goals as goal

pub returns : goal.returns
returns c = one_usage
