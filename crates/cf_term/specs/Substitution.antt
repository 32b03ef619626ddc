-- Renaming, shifting and substitution. A renaming says for each variable which one stands in its place, a substitution which term.
use Rattle.std.specs.Prelude.{ℕ, zero, suc, ◌+◌, ◌-◌, List, nat_lt, nat_eq, if◌then◌else◌}
use Rattle.cf_term.specs.Core.{Tm, var, node, Tms, nil, cons, Part, parts, first_part, rest_parts}

-- a renaming under one more binder
abbrev pub lift : (ℕ → ℕ) → ℕ → ℕ
lift f zero = zero
lift f (suc i) = suc (f i)

-- a renaming under n binders more
abbrev pub lifts : ℕ → (ℕ → ℕ) → ℕ → ℕ
lifts zero f = f
lifts (suc n) f = lift (lifts n f)

abbrev mutual
  pub rename : (ℕ → ℕ) → Tm → Tm
  rename f (var i) = var (f i)
  rename f (node h ts) = node h (rename_all f (parts h) ts)

  pub rename_all : (ℕ → ℕ) → List Part → Tms → Tms
  rename_all f ps nil = nil
  rename_all f ps (cons t ts) = cons (rename (lifts (first_part ps).binds f) t) (rename_all f (rest_parts ps) ts)

-- a substitution under one more binder
abbrev pub up : (ℕ → Tm) → ℕ → Tm
up s zero = var zero
up s (suc i) = rename suc (s i)

-- a substitution under n binders more
abbrev pub ups : ℕ → (ℕ → Tm) → ℕ → Tm
ups zero s = s
ups (suc n) s = up (ups n s)

abbrev mutual
  pub substitute : (ℕ → Tm) → Tm → Tm
  substitute s (var i) = s i
  substitute s (node h ts) = node h (substitute_all s (parts h) ts)

  pub substitute_all : (ℕ → Tm) → List Part → Tms → Tms
  substitute_all s ps nil = nil
  substitute_all s ps (cons t ts) = cons (substitute (ups (first_part ps).binds s) t) (substitute_all s (rest_parts ps) ts)

-- `shift`: the variables from `from` on go up by `by`
abbrev pub skip : (from by : ℕ) → ℕ → ℕ
skip from by i = if nat_lt i from then i else (i + by)

-- the term with its variables from `from` on raised by `by`
abbrev pub shifted : Tm → (from by : ℕ) → Tm
shifted t from by = rename (skip from by) t

-- `subst`: u for the variable `at`; the variables above go down by one
abbrev pub in_place : (at : ℕ) → Tm → ℕ → Tm
in_place at u i = if nat_lt i at then var i else if nat_eq i at then u else var (i - 1)

-- the term with u for the variable `at`
abbrev pub substituted : Tm → (at : ℕ) → Tm → Tm
substituted t at u = substitute (in_place at u) t

-- u for the first variable
abbrev pub single : Tm → ℕ → Tm
single u zero = u
single u (suc i) = var i

-- the term with u for its first variable, and the others lowered by one
abbrev pub instance : Tm → Tm → Tm
instance t u = substitute (single u) t
