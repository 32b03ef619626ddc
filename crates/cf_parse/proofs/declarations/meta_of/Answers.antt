use Rattle.std.proofs.Common.{ap, ◌∙◌}
use Rattle.cf_parse.proofs.Declaring.{meta_is}
use Rattle.cf_syntax.specs.Source.{from}
use Rattle.cf_parse.specs.Values.{decl_sem}
use Rattle.cf_parse.proofs.declarations.meta_of.Goals as goal

pub returns : goal.returns
returns c = λ p k l m n f.
    let s = c.args.source.now in
    ap decl_sem c.in_ok-decl.ensures.ok ∙ meta_is s.prelude (from s c.args.name) _ _ c.place.ensures c.in_ok-text.ensures _ _ _ _ c.into_inner.ensures c.into_inner-2.ensures p k l m n f
