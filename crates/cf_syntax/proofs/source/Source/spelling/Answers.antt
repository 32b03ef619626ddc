use Rattle.std.proofs.Common.{◌∙◌, ap, sym}
use Rattle.cf_syntax.proofs.Places.{here}
use Rattle.cf_syntax.proofs.Ranges.{named_kind}
use Rattle.std.specs.Prelude.{slice_range}
use Rattle.cf_syntax.proofs.source.Source.spelling.Goals as goal

pub returns-in-Some-name : goal.returns-in-Some-name
returns-in-Some-name c = λ k ls p e q.
    let h = here c.args.self.now.tokens.now c.args.at c.in-Some.t k ls c.in-Some.ensures.some e in
    let s = c.in-Some-name.ensures.spelled c.in-Some.t c.in-Some.ensures.listed c.in-Name.is in
    sym s ∙ sym (ap (λ x. x.text) h)

pub returns-in_default : goal.returns-in_default
returns-in_default c = λ k ls p e q.
    let h = here c.args.self.now.tokens.now c.args.at c.in-Some.t k ls c.in-Some.ensures.some e in
    let n = named_kind c.in-Some.t.kind (slice_range c.args.self.now.tokens.now.text c.in-Some.t.start c.in-Some.t.end) p (sym (ap (λ x. x.class) h) ∙ q) in
    absurd (c.in_default.not-Name n.0 n.1)
