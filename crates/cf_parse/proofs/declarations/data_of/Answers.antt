use Rattle.std.proofs.Common.{ap, reverse, ◌∙◌}
use Rattle.cf_parse.proofs.Declaring.{data_is}
use Rattle.cf_syntax.specs.Source.{from}
use Rattle.cf_parse.specs.Values.{decl_sem}
use Rattle.cf_parse.proofs.declarations.data_of.Goals as goal

pub returns : goal.returns
returns c = λ p k l m f g.
    let s = c.args.source.now in
    ap decl_sem c.in_ok-decl.ensures.ok ∙ data_is s.prelude (from s c.args.name) _ _ c.place.ensures c.in_ok-text.ensures _ _ (reverse c.args.ctors.items) _ c.in_ok-texts.ensures c.reverse.ensures.items p k l m f g
