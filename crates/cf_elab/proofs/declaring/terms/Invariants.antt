use Rattle.std.proofs.Common.{◌≡◌, ◌++◌, drop}
use Rattle.cf_elab.specs.Core.{resolve}
use Rattle.cf_elab.specs.Resolving.{and_then, each, pure}
use Rattle.cf_elab.proofs.declaring.terms.Given as goal

-- what is read so far stands before what is read of the rest
abbrev pub invariant-loop-t : goal.invariant-loop-t
invariant-loop-t l =
    (each (resolve l.g l.initial.scope.locals) l.ts.items l.initial.scope.holes
    ≡ and_then (each (resolve l.g l.initial.scope.locals) (drop l.t-index l.ts.items) l.scope.holes) (λ ys. pure (l.read.items ++ ys)))
    × (l.scope.locals ≡ l.initial.scope.locals)
