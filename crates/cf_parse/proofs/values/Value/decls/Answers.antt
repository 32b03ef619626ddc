use Rattle.std.proofs.Common.{◌∙◌, ap, map, reverse, sym}
use Rattle.cf_parse.proofs.Only.{decls_none}
use Rattle.cf_parse.specs.Values.{decl_sem, listed}
use Rattle.cf_parse.proofs.values.Value.decls.Goals as goal

pub returns-in_default : goal.returns-in_default
returns-in_default c = λ s h. decls_none s c.args.self h c.in_default.not-Decls ∙ ap (λ l. listed (map (decl_sem) (reverse l))) (sym c.new.ensures.items)
