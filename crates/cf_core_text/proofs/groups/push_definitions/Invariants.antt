use Rattle.std.proofs.Common.{drop}
use Rattle.cf_lex.specs.declared.keywords.Keyword.TheVariants.{LetRec}
use Rattle.cf_term.specs.Core.{depth_all, nil}
use Rattle.cf_term.specs.View.{definitions}
use Rattle.cf_core_text.specs.Layout.{opened, word_at}
use Rattle.cf_core_text.specs.Pieces.{under}
use Rattle.cf_core_text.proofs.Steps.{Continues}
use Rattle.cf_core_text.proofs.groups.push_definitions.Given as goal

abbrev pub invariant-loop-k : goal.invariant-loop-k
invariant-loop-k l =
    Continues l.fn.items.items l.items.items (opened (word_at l.k) l.s.globals (under l.s.depth l.k) l.s.depth l.inner.depth (drop l.k l.ds))
    (depth_all (definitions (drop l.k l.ds) nil)) (opened LetRec l.s.globals l.s.depth l.s.depth l.inner.depth l.ds)
    (depth_all (definitions l.ds nil))
