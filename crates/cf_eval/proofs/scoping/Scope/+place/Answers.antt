use Rattle.std.proofs.Common.{◌≡◌, ◌∙◌, sym, ap, arith}
use Rattle.cf_eval.specs.Scopes.{seen_scope, context, at_of}
use Rattle.cf_eval.proofs.Placed.{in_scope, out_of_scope}
use Rattle.cf_eval.proofs.scoping.Scope.+place.Goals as goal

pub returns-then-n-d : goal.returns-then-n-d
returns-then-n-d t c =
    let same : context c.in-Context.d ≡ c.args.self.now = ap seen_scope (sym c.in-Context.is) ∙ c.self.view_is in
    sym (in_scope c.in-Context.d c.args.n c.if-n-d.true) ∙ ap (λ s. at_of s c.args.n) same

pub returns-else-n-d : goal.returns-else-n-d
returns-else-n-d t c =
    let same : context c.in-Context.d ≡ c.args.self.now = ap seen_scope (sym c.in-Context.is) ∙ c.self.view_is in
    sym (out_of_scope c.in-Context.d c.args.n (omega arith)) ∙ ap (λ s. at_of s c.args.n) same
