-- The term that a value stands for. Which variable a level stands for is a function `at`: each object binder around changes it.
use Rattle.std.specs.Prelude.{ℕ, zero, suc, ◌+◌, ◌-◌, nat_eq, true, false, List}
use Rattle.cf_term.specs.Core.{Tm, var, node, Tms, nil, cons, Part, parts, first_part, rest_parts}
use Rattle.cf_term.specs.Forms.{Hole}
use Rattle.cf_term.specs.Same.{bare}
use Rattle.cf_term.specs.Substitution.{substitute, ups}
use Rattle.cf_value.specs.Val.{Val, VParts, Vals, level, form, none, ready, frozen, empty, push}

-- the variables of a context of d variables: the level n is the variable that came n-th
abbrev pub in_context : ℕ → ℕ → ℕ
in_context d n = d - 1 - n

-- under one object variable more, which has the level l
abbrev pub with_level : ℕ → (ℕ → ℕ) → ℕ → ℕ
with_level l at n = elim (nat_eq n l) [ true ↦ 0 | false ↦ suc (at n) ]

-- under n object variables more, which have the levels from l on
abbrev pub with_levels : (n l : ℕ) → (ℕ → ℕ) → ℕ → ℕ
with_levels zero l at = at
with_levels (suc n) l at = with_level (l + n) (with_levels n l at)

-- u for the first variable, and s for the others
abbrev pub and_first : Tm → (ℕ → Tm) → ℕ → Tm
and_first u s zero = u
and_first u s (suc i) = s i

abbrev mutual
  pub term_at : (at : ℕ → ℕ) → Val → Tm
  term_at at (level n) = var (at n)
  term_at at (form h l ps) = node h (terms_at at l (parts h) ps)

  -- l is the level of the first object variable that the form binds in a part
  pub terms_at : (at : ℕ → ℕ) → (l : ℕ) → List Part → VParts → Tms
  terms_at at l qs none = nil
  terms_at at l qs (ready v ps) = cons (term_at (with_levels (first_part qs).binds l at) v) (terms_at at l (rest_parts qs) ps)
  terms_at at l qs (frozen e t ps) = cons (substitute (ups (first_part qs).binds (env_at at e)) (bare t)) (terms_at at l (rest_parts qs) ps)

  -- the terms for the variables of an environment; past its end a hole, of which nothing is said
  pub env_at : (at : ℕ → ℕ) → Vals → ℕ → Tm
  env_at at empty i = Hole 0
  env_at at (push v e) i = and_first (term_at at v) (env_at at e) i
