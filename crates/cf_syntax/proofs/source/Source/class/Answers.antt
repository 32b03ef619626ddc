use Rattle.std.proofs.Common.{◌∙◌, ap, sym}
use Rattle.cf_syntax.proofs.Places.{front_here}
use Rattle.cf_syntax.specs.Tokens.{class_of}
use Rattle.cf_syntax.proofs.source.Source.class.Goals as goal

pub returns-in-Some-clause-front : goal.returns-in-Some-clause-front
returns-in-Some-clause-front c = front_here c.args.self.now.tokens.now c.args.at c.in-Some.t c.in-Some.ensures.some ∙ ap (class_of c.in-Some.t.kind) (sym c.text.ensures.value) ∙ sym c.class_of.ensures
