use Rattle.cf_parse.proofs.Keeping.{keeps_declarations}
use Rattle.cf_parse.proofs.laws.keeps_declarations.Goals as goal

pub returns : goal.returns
returns c = keeps_declarations
