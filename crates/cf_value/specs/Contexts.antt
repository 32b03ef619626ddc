-- What a value of a context is.
use Rattle.std.specs.Prelude.{ℕ, zero, suc, ◌+◌, ◌<◌, ◌≡◌, nat_eq, true, false, List}
use Rattle.cf_term.specs.Core.{Part, parts, first_part, rest_parts}
use Rattle.cf_term.specs.Closed.{IsClosed}
use Rattle.cf_term.specs.Evaluation.{IsValue}
use Rattle.cf_value.specs.Heads.{Fits}
use Rattle.cf_value.specs.Val.{Val, VParts, Vals, level, form, none, ready, frozen, empty, push, parts_in, values_in}
use Rattle.cf_value.specs.Stands.{term_at}

-- l, or a level that is known
abbrev pub or_level : ℕ → (ℕ → Type 0) → ℕ → Type 0
or_level l known n = elim (nat_eq n l) as (λ _. Type 0) [ true ↦ Unit {0} | false ↦ known n ]

-- one of the n levels from l on, or a level that is known
abbrev pub or_levels : (n l : ℕ) → (ℕ → Type 0) → ℕ → Type 0
or_levels zero l known = known
or_levels (suc n) l known = or_level (l + n) (or_levels n l known)

-- Each level in the value is known or that of an object binder around it in the value. Each form has the number of parts that it should
-- have, keeps the parts that evaluation keeps, and stands for a term that evaluates to itself in no step. A frozen term
-- has a value for each of its variables but those that its form binds.
abbrev mutual
  pub IsKnown : (known : ℕ → Type 0) → Val → Type 0
  IsKnown known (level n) = known n
  IsKnown known (form h l ps) = ((at : ℕ → ℕ) → IsValue (term_at at (form h l ps))) × Fits h (parts_in ps) × AreKnownParts known l (parts h) ps

  pub AreKnownParts : (known : ℕ → Type 0) → (l : ℕ) → List Part → VParts → Type 0
  AreKnownParts known l qs none = Unit {0}
  AreKnownParts known l qs (ready v ps) = ((first_part qs).kept ≡ false) × IsKnown (or_levels (first_part qs).binds l known) v × AreKnownParts known l (rest_parts qs) ps
  AreKnownParts known l qs (frozen e t ps) = ((first_part qs).kept ≡ true) × IsClosed (values_in e + (first_part qs).binds) t × AreKnown known e × AreKnownParts known l (rest_parts qs) ps

  pub AreKnown : (known : ℕ → Type 0) → Vals → Type 0
  AreKnown known empty = Unit {0}
  AreKnown known (push v e) = IsKnown known v × AreKnown known e

-- a level of a context of d variables
abbrev pub below : ℕ → ℕ → Type 0
below d n = n < d

-- a value of a context of d variables
abbrev pub IsValueIn : (d : ℕ) → Val → Type 0
IsValueIn d v = IsKnown (below d) v

-- an environment of values of a context of d variables
abbrev pub AreValuesIn : (d : ℕ) → Vals → Type 0
AreValuesIn d e = AreKnown (below d) e

-- an environment under n object binders more: the levels from l on for their variables
abbrev pub with_variables : (n l : ℕ) → Vals → Vals
with_variables zero l e = e
with_variables (suc n) l e = push (level (l + n)) (with_variables n l e)
