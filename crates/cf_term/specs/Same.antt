-- Terms without marks, terms without marks and `implicit` flags, and whether two terms are the same, marks and flags aside.
use Rattle.std.specs.Prelude.{ℕ, Bool, true, false, ◌&&◌, nat_eq, List, [], ◌∷◌}
use Rattle.cf_term.specs.Core.{Tm, var, node, Tms, nil, cons, Head, PiH, LamH, AppH, MarkH}
use Rattle.cf_term.specs.Codes.{head_number, numbers}

-- what a mark stands on
abbrev pub only : Tms → Tm
only (cons t ts) = t
only nil = node MarkH nil

-- without marks
abbrev mutual
  pub bare : Tm → Tm
  bare (var i) = var i
  bare (node MarkH ts) = only (bare_all ts)
  bare (node h ts) = node h (bare_all ts)

  pub bare_all : Tms → Tms
  bare_all nil = nil
  bare_all (cons t ts) = cons (bare t) (bare_all ts)

-- a head with its `implicit` flag false
abbrev pub plain_head : Head → Head
plain_head (PiH i) = PiH false
plain_head (LamH i) = LamH false
plain_head (AppH i) = AppH false
plain_head h = h

-- without marks, and with each `implicit` flag false: terms that differ in these alone count as one
abbrev mutual
  pub plain : Tm → Tm
  plain (var i) = var i
  plain (node MarkH ts) = only (plain_all ts)
  plain (node h ts) = node (plain_head h) (plain_all ts)

  pub plain_all : Tms → Tms
  plain_all nil = nil
  plain_all (cons t ts) = cons (plain t) (plain_all ts)

-- a term without its parts and flags
abbrev pub root : Tm → Tm
root (var i) = var i
root (node h ts) = node (plain_head h) nil

-- whether two lists of numbers are equal
abbrev pub same_numbers : List ℕ → List ℕ → Bool
same_numbers [] [] = true
same_numbers (m ∷ ms) (n ∷ ns) = nat_eq m n && same_numbers ms ns
same_numbers _ _ = false

-- whether two heads are equal
abbrev pub same_head : Head → Head → Bool
same_head g h = nat_eq (head_number g) (head_number h) && same_numbers (numbers g) (numbers h)

-- whether two trees are equal
abbrev mutual
  pub equal : Tm → Tm → Bool
  equal (var i) (var j) = nat_eq i j
  equal (node g ts) (node h us) = same_head g h && equal_all ts us
  equal _ _ = false

  pub equal_all : Tms → Tms → Bool
  equal_all nil nil = true
  equal_all (cons t ts) (cons u us) = equal t u && equal_all ts us
  equal_all _ _ = false

-- the same, marks and `implicit` flags aside
abbrev pub same : Tm → Tm → Bool
same t u = equal (plain t) (plain u)
