-- Terms in a context of so many variables.
use Rattle.std.specs.Prelude.{ℕ, ◌+◌, ◌<◌, List}
use Rattle.cf_term.specs.Core.{Tm, var, node, Tms, nil, cons, Part, parts, first_part, rest_parts}

-- each variable of the term that is not bound in it is below n
abbrev mutual
  pub IsClosed : ℕ → Tm → Type 0
  IsClosed n (var i) = i < n
  IsClosed n (node h ts) = AreClosed n (parts h) ts

  pub AreClosed : ℕ → List Part → Tms → Type 0
  AreClosed n ps nil = Unit {0}
  AreClosed n ps (cons t ts) = IsClosed (n + (first_part ps).binds) t × AreClosed n (rest_parts ps) ts
