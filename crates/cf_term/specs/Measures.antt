-- How many forms a term has, and how deep they are nested. Names, numbers, binders and marks are not counted.
use Rattle.std.specs.Prelude.{ℕ, ◌+◌, max}
use Rattle.cf_term.specs.Core.{Tm, var, node, Tms, nil, cons, Head, MarkH}

-- a mark is no form
abbrev pub weight : Head → ℕ
weight MarkH = 0
weight _ = 1

-- the forms of a term, its own included
abbrev mutual
  pub nodes : Tm → ℕ
  nodes (var i) = 1
  nodes (node h ts) = weight h + nodes_all ts

  pub nodes_all : Tms → ℕ
  nodes_all nil = 0
  nodes_all (cons t ts) = nodes t + nodes_all ts

-- the greatest number of forms on one way from a term down to a part, both included
abbrev mutual
  pub nesting : Tm → ℕ
  nesting (var i) = 1
  nesting (node h ts) = weight h + nesting_all ts

  pub nesting_all : Tms → ℕ
  nesting_all nil = 0
  nesting_all (cons t ts) = max (nesting t) (nesting_all ts)
