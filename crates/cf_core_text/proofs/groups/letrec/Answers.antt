use Rattle.std.proofs.Common.{length, refl, arith}
use Rattle.cf_lex.specs.declared.keywords.Keyword.TheVariants.{LetRec}
use Rattle.cf_core_text.proofs.Steps.{then_added, laid}
use Rattle.cf_core_text.proofs.Grouped.{opened_group, defined_group}
use Rattle.cf_core_text.proofs.groups.letrec.Goals as goal

pub returns : goal.returns
returns c =
    laid _ _ _ _ _ _ (then_added c.in_ok-push_definitions.ensures c.in_ok-push_all.ensures) c.new-items.ensures.items refl
    (rw c.in_ok-inner.ensures (opened_group LetRec c.args.s.globals c.args.s.depth c.args.s.depth (length c.args.ds.now) c.args.ds.now c.args.body.now.value))
    (omega (arith, defined_group c.args.ds.now c.args.body.now.value))
