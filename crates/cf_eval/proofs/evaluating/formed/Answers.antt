use Rattle.std.proofs.Common.{arith, sym, ap, ◌∙◌}
use mathlib.Core.Path.{subst}
use Rattle.cf_value.specs.Contexts.{below, IsKnown}
use Rattle.cf_value.specs.Heads.{head_of}
use Rattle.cf_value.specs.Seen.{seen_parts}
use Rattle.cf_value.specs.Stands.{term_at}
use Rattle.cf_eval.specs.Bulk.{bulk}
use Rattle.cf_eval.proofs.Formed.{unquoted_some, unquoted_none, form_known}
use Rattle.cf_eval.proofs.evaluating.formed.Goals as goal

pub returns-in_ok-value-in-Some-clause-equal : goal.returns-in_ok-value-in-Some-clause-equal
returns-in_ok-value-in-Some-clause-equal c = λ at.
    let fine = unquoted_some (below c.args.depth) (head_of c.args.shape) c.args.depth (seen_parts c.args.parts.items) c.in-Some.v.now.value c.requires.fits c.requires.known c.in-Some.ensures in
    ap (term_at at) c.in_ok-value-in-Some.ensures ∙ sym (fine.0 at)

pub returns-in_ok-value-in-Some-clause-known : goal.returns-in_ok-value-in-Some-clause-known
returns-in_ok-value-in-Some-clause-known c =
    let fine = unquoted_some (below c.args.depth) (head_of c.args.shape) c.args.depth (seen_parts c.args.parts.items) c.in-Some.v.now.value c.requires.fits c.requires.known c.in-Some.ensures in
    subst (IsKnown (below c.args.depth)) (sym c.in_ok-value-in-Some.ensures) fine.1

pub returns-in_ok-value-in-Some-clause-no_deeper : goal.returns-in_ok-value-in-Some-clause-no_deeper
returns-in_ok-value-in-Some-clause-no_deeper c =
    let fine = unquoted_some (below c.args.depth) (head_of c.args.shape) c.args.depth (seen_parts c.args.parts.items) c.in-Some.v.now.value c.requires.fits c.requires.known c.in-Some.ensures in
    omega (arith, fine.2, ap bulk c.in_ok-value-in-Some.ensures)

pub returns-in_ok-value-in-None-clause-equal : goal.returns-in_ok-value-in-None-clause-equal
returns-in_ok-value-in-None-clause-equal c = λ at.
    let stays = unquoted_none (below c.args.depth) (head_of c.args.shape) c.args.depth (seen_parts c.args.parts.items) c.requires.fits c.requires.known c.in-None.ensures in
    ap (term_at at) c.in_ok-value-in-None.ensures ∙ sym (stays at)

pub returns-in_ok-value-in-None-clause-known : goal.returns-in_ok-value-in-None-clause-known
returns-in_ok-value-in-None-clause-known c =
    subst (IsKnown (below c.args.depth)) (sym c.in_ok-value-in-None.ensures)
    (form_known c.evaluation_goes_on.ensures (below c.args.depth) (head_of c.args.shape) c.args.depth (seen_parts c.args.parts.items) c.requires.fits c.requires.known c.requires.stays c.in-None.ensures)
