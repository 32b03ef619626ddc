use Rattle.std.proofs.Common.{ap, sym, ◌∙◌}
use Rattle.cf_parse.proofs.Taken.{retold}
use Rattle.cf_parse.specs.Values.{listed, term_of}
use Rattle.cf_parse.specs.Kinds as kind
use Rattle.std.proofs.Common.{map}
use Rattle.cf_parse.proofs.taking.take_terms.Goals as goal

pub returns : goal.returns
returns c = λ s. retold (c.pop.ensures s (kind.Many kind.Term)) (λ h. c.in_ok-terms.ensures s h ∙ ap (λ ts. listed (map term_of ts)) (sym c.reverse.ensures.items))
