use Rattle.std.proofs.Common.{arith}
use Rattle.cf_term.specs.Core.{nil, cons}
use Rattle.cf_term.specs.View.{listed}
use Rattle.cf_term.proofs.Places.{listed_length, definitions_length, bodies_length}
use Rattle.cf_term.proofs.forms.TermNode.with_parts.Goals as goal

pub con-requires : goal.con-requires
con-requires c =
    let h = rw c.in-Con.is at c.requires in
    omega (arith, h, listed_length c.in-Con.params.items (listed c.in-Con.fields.items nil))

pub group-requires : goal.group-requires
group-requires c =
    let h = rw c.in-LetRec.is at c.requires in
    omega (arith, h, definitions_length c.in-LetRec.definitions.items (cons c.in-LetRec.body.value nil))

pub case-requires : goal.case-requires
case-requires c =
    let h = rw c.in-Case.is at c.requires in
    omega (arith, h, bodies_length c.in-Case.branches.items)
