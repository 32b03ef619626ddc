use Rattle.std.proofs.Common.{◌∙◌, Some, ap, false, sym}
use Rattle.cf_tree.specs.View.{decls_of}
use Rattle.cf_parse.proofs.Only.{program_or_not_none}
use Rattle.cf_parse.specs.Meaning.{program_in}
use Rattle.cf_parse.proofs.values.Value.program.Goals as goal

pub returns-in_default : goal.returns-in_default
returns-in_default c = λ s h. ap program_in (program_or_not_none s c.args.self h c.in_default.not-Program) ∙ ap (λ ds. Some (record { explicit = false; prelude = false; decls = decls_of ds })) (sym c.new.ensures.items)
