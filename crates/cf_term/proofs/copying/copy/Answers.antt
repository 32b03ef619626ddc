use Rattle.std.proofs.Common.{ap, ◌∙◌}
use Rattle.cf_term.specs.Core.{nil}
use Rattle.cf_term.specs.View.{tm_of, marked, listed}
use Rattle.cf_term.proofs.Walked.{again}
use Rattle.cf_term.proofs.copying.copy.Goals as goal

pub returns : goal.returns
returns c =
    ap (marked c.t.inside.inserted) (c.in_ok-node.ensures ∙ again (tm_of c.t.inside.node) (listed c.in_ok-parts.parts.items nil) c.in_ok-parts.ensures.parts) ∙
    c.t.view_is
