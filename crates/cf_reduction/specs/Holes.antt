-- Which holes a term has.
use Rattle.std.specs.Prelude.{ℕ, Bool, IsTrue}
use Rattle.cf_term.specs.Core.{Tm, var, node, Tms, nil, cons, HoleH}

-- each hole in the term is one of these
abbrev mutual
  pub HolesAre : (ℕ → Bool) → Tm → Type 0
  HolesAre these (var i) = Unit {0}
  HolesAre these (node (HoleH k) ts) = IsTrue (these k) × AllHolesAre these ts
  HolesAre these (node h ts) = AllHolesAre these ts

  pub AllHolesAre : (ℕ → Bool) → Tms → Type 0
  AllHolesAre these nil = Unit {0}
  AllHolesAre these (cons t ts) = HolesAre these t × AllHolesAre these ts
