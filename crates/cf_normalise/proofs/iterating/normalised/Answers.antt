use Rattle.std.proofs.Common.{◌≡◌}
use Rattle.cf_term.specs.Same.{bare}
use Rattle.cf_term.specs.Substitution.{substitute}
use Rattle.cf_value.specs.Stands.{env_at, in_context}
use Rattle.cf_normalise.specs.Iterated.{call}
use Rattle.cf_normalise.proofs.Closed.{bare_call_unchanged, call_closed}
use Rattle.cf_normalise.proofs.iterating.normalised.Goals as goal

pub normalise-requires-clause-closed : goal.normalise-requires-clause-closed
normalise-requires-clause-closed c = rw (c.empty.ensures, c.deref.ensures, c.in_ok-t.ensures) (call_closed c.args.levels 0)

pub returns : goal.returns
returns c =
    let same : substitute (env_at (in_context 0) c.empty.result) (bare c.deref.result.now) ≡ bare (call c.args.levels) =
    rw (c.deref.ensures, c.in_ok-t.ensures) (bare_call_unchanged c.args.levels _) in
    rw same at c.normalise-2.ensures.equal
