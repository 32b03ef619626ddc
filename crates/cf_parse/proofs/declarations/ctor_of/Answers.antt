use Rattle.std.proofs.Common.{ap, ◌∙◌}
use Rattle.cf_parse.proofs.Declaring.{ctor_is}
use Rattle.cf_syntax.specs.Source.{from}
use Rattle.cf_parse.specs.Values.{ctor_sem}
use Rattle.cf_parse.proofs.declarations.ctor_of.Goals as goal

pub returns : goal.returns
returns c = λ p k l f.
    let s = c.args.source.now in
    ap ctor_sem c.in_ok-ctor.ensures.ok ∙ ctor_is s.prelude (from s c.args.name) _ _ c.place.ensures c.in_ok-text.ensures _ _ c.reverse.ensures.items p k l f
