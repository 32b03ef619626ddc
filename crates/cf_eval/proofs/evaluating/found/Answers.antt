use Rattle.std.proofs.Common.{arith, sym, ap, ◌∙◌}
use mathlib.Core.Path.{subst}
use Rattle.std.specs.declared.alloc.Global.{Global}
use Rattle.cf_value.specs.Contexts.{below, IsKnown}
use Rattle.cf_value.specs.Stands.{term_at}
use Rattle.cf_eval.specs.Bulk.{bulk}
use Rattle.cf_eval.proofs.Looked.{finds, found_none, found_is, found_known, found_bulk}
use Rattle.cf_eval.proofs.evaluating.found.Goals as goal

pub unreachable-requires : goal.unreachable-requires
unreachable-requires c = found_none Global c.args.env.now c.args.i c.requires.bound c.in-None.ensures

pub returns-clause-stands : goal.returns-clause-stands
returns-clause-stands c = λ at.
    let e = finds c.in-Some.v _ c.in-Some.ensures in
    found_is c.args.env.now c.args.i c.in-Some.v.now.value e at ∙ ap (term_at at) (sym c.in_ok-shared-in-Some.ensures)

pub returns-clause-known : goal.returns-clause-known
returns-clause-known c =
    let e = finds c.in-Some.v _ c.in-Some.ensures in
    subst (IsKnown (below c.args.depth)) (sym c.in_ok-shared-in-Some.ensures) (found_known (below c.args.depth) c.args.env.now c.args.i c.in-Some.v.now.value e c.requires.values)

pub returns-clause-no_deeper : goal.returns-clause-no_deeper
returns-clause-no_deeper c =
    let e = finds c.in-Some.v _ c.in-Some.ensures in
    omega (arith, found_bulk c.args.env.now c.args.i c.in-Some.v.now.value e, ap bulk c.in_ok-shared-in-Some.ensures)
