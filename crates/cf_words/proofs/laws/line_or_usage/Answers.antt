use Rattle.cf_words.proofs.Total.{line_or_usage}
use Rattle.cf_words.proofs.laws.line_or_usage.Goals as goal

pub returns : goal.returns
returns c = line_or_usage
