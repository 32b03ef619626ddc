use Rattle.std.proofs.Common.{arith, ap}
use Rattle.cf_term.specs.Core.{nil, cons}
use Rattle.cf_term.specs.View.{listed, tm_of}
use Rattle.cf_term.specs.Numbered.{count}
use Rattle.cf_value.proofs.Built.{definitions_count, listed_count, case_fits}
use Rattle.cf_value.proofs.shapes.Shape.of.Goals as goal

pub returns-in-LetRec-clause-fits : goal.returns-in-LetRec-clause-fits
returns-in-LetRec-clause-fits c =
    let n = ap (λ f. count (tm_of f)) c.in-LetRec.is in
    omega (arith, n, c.len.ensures, definitions_count c.in-LetRec.definitions.items (cons c.in-LetRec.body.value nil))

pub returns-in-Con-clause-fits : goal.returns-in-Con-clause-fits
returns-in-Con-clause-fits c =
    let n = ap (λ f. count (tm_of f)) c.in-Con.is in
    omega (arith, n, c.len-in-Con.ensures, listed_count c.in-Con.params.items (listed c.in-Con.fields.items nil))

pub returns-in-Case-clause-fits : goal.returns-in-Case-clause-fits
returns-in-Case-clause-fits c = rw c.in-Case.is (case_fits c.in-Case.branches.items c.in-Case.scrutinee.value c.in-Case.ty.value c.arms.result c.arms.ensures)
